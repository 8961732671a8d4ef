use Rattle.law_desktop.proofs.KeptInOrder.Laws.{empty_is_ordered}
use Rattle.law_desktop.proofs.ordered.empty_is_ordered.Goals as goal

pub returns : goal.returns
returns c = empty_is_ordered
