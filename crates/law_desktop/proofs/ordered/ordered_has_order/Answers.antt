use Rattle.law_desktop.proofs.KeptInOrder.Laws.{ordered_has_order}
use Rattle.law_desktop.proofs.ordered.ordered_has_order.Goals as goal

pub returns : goal.returns
returns c = ordered_has_order
