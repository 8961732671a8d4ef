use Rattle.law_desktop.proofs.NobodyPoints.Laws.{frames_keep_unpointed}
use Rattle.law_desktop.proofs.invariants.nobody_points.frames_keep_unpointed.Goals as goal

pub returns : goal.returns
returns c = frames_keep_unpointed
