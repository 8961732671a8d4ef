use Rattle.wl_surface.proofs.Placing.{places-child}
use Rattle.wl_surface.proofs.tree_laws.places_child.Goals as goal

pub returns : goal.returns
returns c = places-child
