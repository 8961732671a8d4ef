use Rattle.law_desktop.proofs.NobodyPoints.Laws.{empty_is_unpointed}
use Rattle.law_desktop.proofs.invariants.nobody_points.empty_is_unpointed.Goals as goal

pub returns : goal.returns
returns c = empty_is_unpointed
