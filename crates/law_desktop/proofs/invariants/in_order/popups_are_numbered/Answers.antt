use Rattle.law_desktop.proofs.InOrder.Laws.{popups_are_numbered}
use Rattle.law_desktop.proofs.invariants.in_order.popups_are_numbered.Goals as goal

pub returns : goal.returns
returns c = popups_are_numbered
