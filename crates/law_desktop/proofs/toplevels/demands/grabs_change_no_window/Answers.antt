use Rattle.law_desktop.proofs.RootsOf.Demands.{grabs-change}
use Rattle.law_desktop.proofs.toplevels.demands.grabs_change_no_window.Goals as goal

pub returns : goal.returns
returns c = grabs-change
