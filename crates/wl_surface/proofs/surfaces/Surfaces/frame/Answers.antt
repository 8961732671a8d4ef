use Rattle.std.proofs.Common.{refl}
use Rattle.wl_surface.specs.Request.{Frame}
use Rattle.wl_surface.proofs.Asking.{alone-stands}
use Rattle.wl_surface.proofs.Refusing.{on-ok}
use Rattle.wl_surface.proofs.surfaces.Surfaces.frame.Goals as goal

pub returns-clause-ok : goal.returns-clause-ok
returns-clause-ok g c = rw (← c.self.view_is) c.frame.ensures.ok

pub returns-clause-stand : goal.returns-clause-stand
returns-clause-stand g c =
    rw (← c.self.view_is)
    (on-ok c.frame.result c.frame.ensures.ok (λ changes n all stand.
    alone-stands c.self.inside.states c.frame.new.self c.self.inside.family all c.args.surface (Frame n) refl refl (changes n) stand))
