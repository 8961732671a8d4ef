use Rattle.law_desktop.proofs.InOrder.Laws.{in_order_stays}
use Rattle.law_desktop.proofs.invariants.in_order.in_order_stays.Goals as goal

pub returns : goal.returns
returns c = in_order_stays
