use Rattle.law_desktop.proofs.NobodyPoints.Laws.{pieces_keep_unpointed}
use Rattle.law_desktop.proofs.invariants.nobody_points.pieces_keep_unpointed.Goals as goal

pub returns : goal.returns
returns c = pieces_keep_unpointed
