use Rattle.wl_scene.proofs.Standing.{stacked-replaced}
use Rattle.wl_scene.proofs.stacking.stacked_replaced.Goals as goal

pub returns : goal.returns
returns c = stacked-replaced
