use Rattle.wl_surface.proofs.Coming.{applies-tree}
use Rattle.wl_surface.proofs.tree_laws.applies_tree.Goals as goal

pub returns : goal.returns
returns c = applies-tree
