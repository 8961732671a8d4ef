use Rattle.law_desktop.proofs.RootsOf.Demands.{commits-change}
use Rattle.law_desktop.proofs.toplevels.demands.commits_change_one_toplevel.Goals as goal

pub returns : goal.returns
returns c = commits-change
