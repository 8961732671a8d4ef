use Rattle.law_desktop.proofs.XdgRoots.Tied.{surfaces-are-tied}
use Rattle.law_desktop.proofs.invariants.xdg_roots.surfaces_are_tied.Goals as goal

pub returns : goal.returns
returns c = surfaces-are-tied
