use Rattle.law_desktop.proofs.RootsOf.Demands.{popup-ends-change}
use Rattle.law_desktop.proofs.toplevels.demands.popup_ends_change_one_toplevel.Goals as goal

pub returns : goal.returns
returns c = popup-ends-change
