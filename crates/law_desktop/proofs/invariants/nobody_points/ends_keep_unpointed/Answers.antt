use Rattle.law_desktop.proofs.NobodyPoints.Laws.{ends_keep_unpointed}
use Rattle.law_desktop.proofs.invariants.nobody_points.ends_keep_unpointed.Goals as goal

pub returns : goal.returns
returns c = ends_keep_unpointed
