use Rattle.std.proofs.Common.{refl, w32}
use Rattle.std.proofs.lemmas.Int.{to_z-of_z}
use Rattle.std.specs.Prelude.{unsigned_abs}
use Rattle.wl_surface.specs.Request.{SetBufferTransform}
use Rattle.wl_surface.proofs.Asking.{alone-stands}
use Rattle.wl_surface.proofs.Refusing.{on-ok}
use Rattle.wl_surface.proofs.surfaces.Surfaces.set_transform.Goals as goal

pub returns-clause-stand : goal.returns-clause-stand
returns-clause-stand g c =
    rw (← c.self.view_is)
    (on-ok c.set_transform.result (simp (to_z-of_z w32 c.args.transform c.ranges.transform) at c.set_transform.ensures.ok) (λ changes all stand.
    alone-stands c.self.inside.states c.set_transform.new.self c.self.inside.family all c.args.surface (SetBufferTransform (unsigned_abs c.args.transform)) refl refl changes stand))
