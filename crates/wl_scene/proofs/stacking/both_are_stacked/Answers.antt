use Rattle.wl_scene.proofs.Standing.{both-are-stacked}
use Rattle.wl_scene.proofs.stacking.both_are_stacked.Goals as goal

pub returns : goal.returns
returns c = both-are-stacked
