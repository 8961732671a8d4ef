use Rattle.law_desktop.proofs.KeptInOrder.Laws.{presses_keep_ordered}
use Rattle.law_desktop.proofs.ordered.presses_keep_ordered.Goals as goal

pub returns : goal.returns
returns c = presses_keep_ordered
