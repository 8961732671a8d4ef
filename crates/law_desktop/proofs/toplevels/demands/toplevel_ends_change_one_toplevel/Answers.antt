use Rattle.law_desktop.proofs.RootsOf.Demands.{toplevel-ends-change}
use Rattle.law_desktop.proofs.toplevels.demands.toplevel_ends_change_one_toplevel.Goals as goal

pub returns : goal.returns
returns c = toplevel-ends-change
