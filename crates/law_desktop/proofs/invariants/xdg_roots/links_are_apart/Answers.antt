use Rattle.law_desktop.proofs.XdgRoots.Orderly.{links-are-apart}
use Rattle.law_desktop.proofs.invariants.xdg_roots.links_are_apart.Goals as goal

pub returns : goal.returns
returns c = links-are-apart
