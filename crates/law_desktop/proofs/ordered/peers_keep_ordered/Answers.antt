use Rattle.law_desktop.proofs.KeptInOrder.Laws.{peers_keep_ordered}
use Rattle.law_desktop.proofs.ordered.peers_keep_ordered.Goals as goal

pub returns : goal.returns
returns c = peers_keep_ordered
