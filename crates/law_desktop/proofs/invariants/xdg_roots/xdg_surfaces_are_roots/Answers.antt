use Rattle.law_desktop.proofs.XdgRoots.Orderly.{xdg-surfaces-are-roots}
use Rattle.law_desktop.proofs.invariants.xdg_roots.xdg_surfaces_are_roots.Goals as goal

pub returns : goal.returns
returns c = xdg-surfaces-are-roots
