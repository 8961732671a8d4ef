use Rattle.law_desktop.proofs.ShownSurfaces.Laws.{ends_keep_shown}
use Rattle.law_desktop.proofs.invariants.shown.ends_keep_shown.Goals as goal

pub returns : goal.returns
returns c = ends_keep_shown
