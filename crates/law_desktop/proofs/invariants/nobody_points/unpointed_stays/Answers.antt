use Rattle.law_desktop.proofs.NobodyPoints.Laws.{unpointed_stays}
use Rattle.law_desktop.proofs.invariants.nobody_points.unpointed_stays.Goals as goal

pub returns : goal.returns
returns c = unpointed_stays
