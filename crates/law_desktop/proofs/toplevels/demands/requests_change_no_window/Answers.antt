use Rattle.law_desktop.proofs.RootsOf.Demands.{requests-change}
use Rattle.law_desktop.proofs.toplevels.demands.requests_change_no_window.Goals as goal

pub returns : goal.returns
returns c = requests-change
