use Rattle.wl_surface.specs.Linked.{numbered}
use Rattle.wl_surface.proofs.Asking.{new-stands}
use Rattle.wl_surface.proofs.Committing.{if-ok}
use Rattle.wl_surface.proofs.surfaces.Surfaces.create.Goals as goal

pub returns-clause-ok : goal.returns-clause-ok
returns-clause-ok g c = rw (← c.self.view_is) c.create.ensures.ok

pub returns-clause-stand : goal.returns-clause-stand
returns-clause-stand g c =
    rw (← c.self.view_is)
    (if-ok c.create.result c.create.ensures.ok (λ number made all stand.
    let is = made (numbered all) number stand.surfaces in
    (is.0, new-stands c.self.inside.states c.create.new.self c.self.inside.family all number is.0 is.1 stand)))
