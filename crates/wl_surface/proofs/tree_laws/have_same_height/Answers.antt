use Rattle.wl_surface.proofs.Heights.{same-height}
use Rattle.wl_surface.proofs.tree_laws.have_same_height.Goals as goal

pub returns : goal.returns
returns c = same-height
