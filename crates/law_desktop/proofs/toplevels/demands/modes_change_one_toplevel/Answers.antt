use Rattle.law_desktop.proofs.RootsOf.Demands.{modes-change}
use Rattle.law_desktop.proofs.toplevels.demands.modes_change_one_toplevel.Goals as goal

pub returns : goal.returns
returns c = modes-change
