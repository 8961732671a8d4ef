use Rattle.law_desktop.proofs.KeptInOrder.Laws.{ordered_stays}
use Rattle.law_desktop.proofs.ordered.ordered_stays.Goals as goal

pub returns : goal.returns
returns c = ordered_stays
