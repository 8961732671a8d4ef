use Rattle.law_desktop.proofs.ShownSurfaces.Laws.{messages_keep_shown}
use Rattle.law_desktop.proofs.invariants.shown.messages_keep_shown.Goals as goal

pub returns : goal.returns
returns c = messages_keep_shown
