use Rattle.law_desktop.proofs.RootsOf.Each.{demands-change}
use Rattle.law_desktop.proofs.toplevels.demands.demands_change_one_toplevel.Goals as goal

pub returns : goal.returns
returns c = demands-change
