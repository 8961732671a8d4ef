use Rattle.wl_surface.proofs.Parents.{same-descent}
use Rattle.wl_surface.proofs.tree_laws.have_same_descent.Goals as goal

pub returns : goal.returns
returns c = same-descent
