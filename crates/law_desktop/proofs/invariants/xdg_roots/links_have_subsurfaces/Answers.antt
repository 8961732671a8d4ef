use Rattle.law_desktop.proofs.XdgRoots.Orderly.{links-have-subsurfaces}
use Rattle.law_desktop.proofs.invariants.xdg_roots.links_have_subsurfaces.Goals as goal

pub returns : goal.returns
returns c = links-have-subsurfaces
