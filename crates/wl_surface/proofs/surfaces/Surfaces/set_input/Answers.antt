use Rattle.std.proofs.Common.{refl}
use Rattle.wl_surface.specs.Request.{SetInputRegion}
use Rattle.wl_surface.proofs.Asking.{alone-stands}
use Rattle.wl_surface.proofs.Refusing.{on-ok}
use Rattle.wl_surface.proofs.surfaces.Surfaces.set_input.Goals as goal

pub returns-clause-stand : goal.returns-clause-stand
returns-clause-stand g c =
    rw (← c.self.view_is)
    (on-ok c.set_input.result c.set_input.ensures.ok (λ change changes copied all stand.
    alone-stands c.self.inside.states c.set_input.new.self c.self.inside.family all c.args.surface (SetInputRegion changes) refl refl (change changes copied) stand))
