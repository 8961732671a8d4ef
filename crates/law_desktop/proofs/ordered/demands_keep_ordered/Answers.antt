use Rattle.law_desktop.proofs.KeptInOrder.Laws.{demands_keep_ordered}
use Rattle.law_desktop.proofs.ordered.demands_keep_ordered.Goals as goal

pub returns : goal.returns
returns c = demands_keep_ordered
