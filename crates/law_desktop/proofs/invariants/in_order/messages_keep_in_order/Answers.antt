use Rattle.law_desktop.proofs.InOrder.Laws.{messages_keep_in_order}
use Rattle.law_desktop.proofs.invariants.in_order.messages_keep_in_order.Goals as goal

pub returns : goal.returns
returns c = messages_keep_in_order
