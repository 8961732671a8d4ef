use Rattle.wl_surface.proofs.Coming.{creates-surface}
use Rattle.wl_surface.proofs.tree_laws.creates_surface.Goals as goal

pub returns : goal.returns
returns c = creates-surface
