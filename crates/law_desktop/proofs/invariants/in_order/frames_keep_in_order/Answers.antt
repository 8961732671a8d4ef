use Rattle.law_desktop.proofs.InOrder.Laws.{frames_keep_in_order}
use Rattle.law_desktop.proofs.invariants.in_order.frames_keep_in_order.Goals as goal

pub returns : goal.returns
returns c = frames_keep_in_order
