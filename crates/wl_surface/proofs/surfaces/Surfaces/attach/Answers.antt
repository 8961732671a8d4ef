use Rattle.std.proofs.Common.{refl, w32}
use Rattle.std.proofs.lemmas.Int.{to_z-of_z}
use Rattle.std.specs.Option.{option_map}
use Rattle.wl_surface.specs.Kept.{buffer_of}
use Rattle.wl_surface.specs.Request.{Attach}
use Rattle.wl_surface.proofs.Asking.{alone-stands}
use Rattle.wl_surface.proofs.surfaces.Surfaces.attach.Goals as goal

pub returns-clause-stand : goal.returns-clause-stand
returns-clause-stand g c =
    rw (← c.self.view_is)
    (λ all stand.
    alone-stands c.self.inside.states c.attach.new.self c.self.inside.family all c.args.surface (Attach (option_map buffer_of c.args.buffer) c.args.x c.args.y) refl refl
    (simp (to_z-of_z w32 c.args.x c.ranges.x, to_z-of_z w32 c.args.y c.ranges.y) at c.attach.ensures.changes) stand)
