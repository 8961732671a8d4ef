use Rattle.wl_scene.proofs.Moved.{moved-trees-are-as-long}
use Rattle.wl_scene.proofs.stacking.moved_trees_are_as_long.Goals as goal

pub returns : goal.returns
returns c = moved-trees-are-as-long
