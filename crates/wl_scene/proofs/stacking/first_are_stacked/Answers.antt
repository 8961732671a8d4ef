use Rattle.wl_scene.proofs.Standing.{first-are-stacked}
use Rattle.wl_scene.proofs.stacking.first_are_stacked.Goals as goal

pub returns : goal.returns
returns c = first-are-stacked
