use Rattle.law_desktop.proofs.InOrder.Dismissed.{others_dismiss_none}
use Rattle.law_desktop.proofs.invariants.in_order.others_dismiss_none.Goals as goal

pub returns : goal.returns
returns c = others_dismiss_none
