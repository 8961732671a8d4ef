use Rattle.law_desktop.proofs.RootsOf.Demands.{states-change}
use Rattle.law_desktop.proofs.toplevels.demands.states_change_no_window.Goals as goal

pub returns : goal.returns
returns c = states-change
