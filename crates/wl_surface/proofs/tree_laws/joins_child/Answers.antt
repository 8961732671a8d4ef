use Rattle.wl_surface.proofs.Joining.{joins-child}
use Rattle.wl_surface.proofs.tree_laws.joins_child.Goals as goal

pub returns : goal.returns
returns c = joins-child
