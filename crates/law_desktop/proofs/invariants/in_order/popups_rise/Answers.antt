use Rattle.law_desktop.proofs.InOrder.Rising.{popups_rise}
use Rattle.law_desktop.proofs.invariants.in_order.popups_rise.Goals as goal

pub returns : goal.returns
returns c = popups_rise
