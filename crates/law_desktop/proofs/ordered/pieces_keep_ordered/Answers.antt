use Rattle.law_desktop.proofs.KeptInOrder.Laws.{pieces_keep_ordered}
use Rattle.law_desktop.proofs.ordered.pieces_keep_ordered.Goals as goal

pub returns : goal.returns
returns c = pieces_keep_ordered
