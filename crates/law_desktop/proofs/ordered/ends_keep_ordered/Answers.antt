use Rattle.law_desktop.proofs.KeptInOrder.Laws.{ends_keep_ordered}
use Rattle.law_desktop.proofs.ordered.ends_keep_ordered.Goals as goal

pub returns : goal.returns
returns c = ends_keep_ordered
