use Rattle.wl_surface.proofs.TreesDestroying.{destroys-surface}
use Rattle.wl_surface.proofs.tree_laws.destroys_surface.Goals as goal

pub returns : goal.returns
returns c = destroys-surface
