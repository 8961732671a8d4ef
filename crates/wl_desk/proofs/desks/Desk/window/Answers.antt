use Rattle.spec_desktop.specs.Desktop.{unpointed}
use Rattle.wl_desk.proofs.desks.Desk.window.Goals as goal

pub returns : goal.returns
returns g c = rw (← c.self.view_is) (λ d a. c.shown.ensures (unpointed d) a.kept)
