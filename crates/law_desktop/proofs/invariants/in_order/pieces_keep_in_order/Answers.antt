use Rattle.law_desktop.proofs.InOrder.Laws.{pieces_keep_in_order}
use Rattle.law_desktop.proofs.invariants.in_order.pieces_keep_in_order.Goals as goal

pub returns : goal.returns
returns c = pieces_keep_in_order
