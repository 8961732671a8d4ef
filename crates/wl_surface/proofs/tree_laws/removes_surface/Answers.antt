use Rattle.wl_surface.proofs.Coming.{removes-surface}
use Rattle.wl_surface.proofs.tree_laws.removes_surface.Goals as goal

pub returns : goal.returns
returns c = removes-surface
