use Rattle.law_desktop.proofs.RootsOf.Staying.{roots-stay}
use Rattle.law_desktop.proofs.toplevels.roots.roots_stay.Goals as goal

pub returns : goal.returns
returns c = roots-stay
