use Rattle.wl_surface.proofs.Stacking.{follow}
use Rattle.wl_surface.proofs.tree_laws.stacks_follow.Goals as goal

pub returns : goal.returns
returns c = follow
