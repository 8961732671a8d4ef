use Rattle.law_desktop.proofs.RootsOf.Demands.{surface-ends-change}
use Rattle.law_desktop.proofs.toplevels.demands.surface_ends_change_one_toplevel.Goals as goal

pub returns : goal.returns
returns c = surface-ends-change
