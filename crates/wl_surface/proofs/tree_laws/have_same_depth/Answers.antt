use Rattle.wl_surface.proofs.Parents.{same-depth}
use Rattle.wl_surface.proofs.tree_laws.have_same_depth.Goals as goal

pub returns : goal.returns
returns c = same-depth
