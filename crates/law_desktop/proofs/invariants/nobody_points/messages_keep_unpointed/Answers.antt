use Rattle.law_desktop.proofs.NobodyPoints.Laws.{messages_keep_unpointed}
use Rattle.law_desktop.proofs.invariants.nobody_points.messages_keep_unpointed.Goals as goal

pub returns : goal.returns
returns c = messages_keep_unpointed
