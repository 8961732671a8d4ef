use Rattle.law_desktop.proofs.KeptInOrder.Laws.{moves_keep_ordered}
use Rattle.law_desktop.proofs.ordered.moves_keep_ordered.Goals as goal

pub returns : goal.returns
returns c = moves_keep_ordered
