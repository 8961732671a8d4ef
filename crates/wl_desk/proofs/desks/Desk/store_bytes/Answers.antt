use Rattle.spec_desktop.specs.Desktop.{unpointed}
use Rattle.wl_desk.proofs.desks.Desk.store_bytes.Goals as goal

pub returns : goal.returns
returns g c = rw (← c.self.view_is) (λ d a. c.store_bytes.ensures (unpointed d) a.kept)
