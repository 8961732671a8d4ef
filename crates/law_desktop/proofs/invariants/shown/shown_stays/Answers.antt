use Rattle.law_desktop.proofs.ShownSurfaces.Laws.{shown_stays}
use Rattle.law_desktop.proofs.invariants.shown.shown_stays.Goals as goal

pub returns : goal.returns
returns c = shown_stays
