use Rattle.spec_desktop.specs.Desktop.{unpointed}
use Rattle.wl_desk.proofs.desks.Desk.paint.Goals as goal

pub returns-clause-painted : goal.returns-clause-painted
returns-clause-painted g c = rw (← c.self.view_is) (λ d a. c.paint.ensures.painted (unpointed d) a.kept)
