use Rattle.spec_desktop.specs.Desktop.{unpointed}
use Rattle.wl_desk.proofs.desks.Desk.window_count.Goals as goal

pub returns-clause-windows : goal.returns-clause-windows
returns-clause-windows g c = rw (← c.self.view_is) (λ d a. c.window_count.ensures.windows (unpointed d) a.kept)
