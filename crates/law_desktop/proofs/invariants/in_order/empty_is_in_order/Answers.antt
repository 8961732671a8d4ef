use Rattle.law_desktop.proofs.InOrder.Laws.{empty_is_in_order}
use Rattle.law_desktop.proofs.invariants.in_order.empty_is_in_order.Goals as goal

pub returns : goal.returns
returns c = empty_is_in_order
