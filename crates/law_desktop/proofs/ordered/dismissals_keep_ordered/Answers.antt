use Rattle.law_desktop.proofs.KeptInOrder.Laws.{dismissals_keep_ordered}
use Rattle.law_desktop.proofs.ordered.dismissals_keep_ordered.Goals as goal

pub returns : goal.returns
returns c = dismissals_keep_ordered
