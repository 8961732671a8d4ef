use Rattle.law_desktop.proofs.ShownSurfaces.Laws.{pieces_keep_shown}
use Rattle.law_desktop.proofs.invariants.shown.pieces_keep_shown.Goals as goal

pub returns : goal.returns
returns c = pieces_keep_shown
