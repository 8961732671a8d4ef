use Rattle.std.proofs.Common.{refl}
use Rattle.wl_surface.specs.Request.{SetOpaqueRegion}
use Rattle.wl_surface.proofs.Asking.{alone-stands}
use Rattle.wl_surface.proofs.Refusing.{on-ok}
use Rattle.wl_surface.proofs.surfaces.Surfaces.set_opaque.Goals as goal

pub returns-clause-stand : goal.returns-clause-stand
returns-clause-stand g c =
    rw (← c.self.view_is)
    (on-ok c.set_opaque.result c.set_opaque.ensures.ok (λ change changes copied all stand.
    alone-stands c.self.inside.states c.set_opaque.new.self c.self.inside.family all c.args.surface (SetOpaqueRegion changes) refl refl (change changes copied) stand))
