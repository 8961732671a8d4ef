use Rattle.wl_surface.proofs.TreesApplying.{applies-descendants}
use Rattle.wl_surface.proofs.tree_laws.applies_descendants.Goals as goal

pub returns : goal.returns
returns c = applies-descendants
