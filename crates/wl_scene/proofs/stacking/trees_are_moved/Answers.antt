use Rattle.wl_scene.proofs.Moved.{trees-are-moved}
use Rattle.wl_scene.proofs.stacking.trees_are_moved.Goals as goal

pub returns : goal.returns
returns c = trees-are-moved
