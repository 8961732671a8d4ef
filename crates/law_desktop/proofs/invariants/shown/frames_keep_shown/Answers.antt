use Rattle.law_desktop.proofs.ShownSurfaces.Laws.{frames_keep_shown}
use Rattle.law_desktop.proofs.invariants.shown.frames_keep_shown.Goals as goal

pub returns : goal.returns
returns c = frames_keep_shown
