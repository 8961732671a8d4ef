use Rattle.law_desktop.proofs.RootsOf.Demands.{subsurface-ends-change}
use Rattle.law_desktop.proofs.toplevels.demands.subsurface_ends_change_one_toplevel.Goals as goal

pub returns : goal.returns
returns c = subsurface-ends-change
