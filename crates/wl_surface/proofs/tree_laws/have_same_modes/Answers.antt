use Rattle.wl_surface.proofs.Parents.{same-modes}
use Rattle.wl_surface.proofs.tree_laws.have_same_modes.Goals as goal

pub returns : goal.returns
returns c = same-modes
