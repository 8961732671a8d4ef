use Rattle.wl_scene.proofs.Standing.{stacked-pushed}
use Rattle.wl_scene.proofs.stacking.stacked_pushed.Goals as goal

pub returns : goal.returns
returns c = stacked-pushed
