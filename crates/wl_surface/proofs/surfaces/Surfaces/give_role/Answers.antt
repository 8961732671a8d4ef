use Rattle.wl_surface.proofs.Asking.{role-stands}
use Rattle.wl_surface.proofs.Refusing.{on-ok}
use Rattle.wl_surface.proofs.surfaces.Surfaces.give_role.Goals as goal

pub returns-clause-stand : goal.returns-clause-stand
returns-clause-stand g c =
    rw (← c.self.view_is)
    (on-ok c.give_role.result c.give_role.ensures.ok (λ changes all stand.
    role-stands c.self.inside.states c.give_role.new.self c.self.inside.family all c.args.surface c.args.role changes stand))
