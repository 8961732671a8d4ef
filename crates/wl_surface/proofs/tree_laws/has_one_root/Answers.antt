use Rattle.wl_surface.proofs.Roots.{has-one-root}
use Rattle.wl_surface.proofs.tree_laws.has_one_root.Goals as goal

pub returns : goal.returns
returns c = has-one-root
