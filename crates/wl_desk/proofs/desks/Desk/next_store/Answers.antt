use Rattle.spec_desktop.specs.Desktop.{unpointed}
use Rattle.wl_desk.proofs.desks.Desk.next_store.Goals as goal

pub returns-clause-next : goal.returns-clause-next
returns-clause-next g c = rw (← c.self.view_is) (λ d a. c.next_store.ensures.next (unpointed d) a.kept)
