use Rattle.law_desktop.proofs.KeptInOrder.Laws.{frames_keep_ordered}
use Rattle.law_desktop.proofs.ordered.frames_keep_ordered.Goals as goal

pub returns : goal.returns
returns c = frames_keep_ordered
