use Rattle.law_desktop.proofs.ShownSurfaces.Laws.{empty_is_shown}
use Rattle.law_desktop.proofs.invariants.shown.empty_is_shown.Goals as goal

pub returns : goal.returns
returns c = empty_is_shown
