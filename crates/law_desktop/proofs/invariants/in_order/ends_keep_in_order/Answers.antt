use Rattle.law_desktop.proofs.InOrder.Laws.{ends_keep_in_order}
use Rattle.law_desktop.proofs.invariants.in_order.ends_keep_in_order.Goals as goal

pub returns : goal.returns
returns c = ends_keep_in_order
