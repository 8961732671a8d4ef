use Rattle.wl_surface.proofs.Placing.{moves-child}
use Rattle.wl_surface.proofs.tree_laws.moves_child.Goals as goal

pub returns : goal.returns
returns c = moves-child
