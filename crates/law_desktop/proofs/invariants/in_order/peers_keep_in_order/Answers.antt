use Rattle.law_desktop.proofs.InOrder.Laws.{peers_keep_in_order}
use Rattle.law_desktop.proofs.invariants.in_order.peers_keep_in_order.Goals as goal

pub returns : goal.returns
returns c = peers_keep_in_order
