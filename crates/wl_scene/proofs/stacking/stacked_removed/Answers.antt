use Rattle.wl_scene.proofs.Standing.{stacked-removed}
use Rattle.wl_scene.proofs.stacking.stacked_removed.Goals as goal

pub returns : goal.returns
returns c = stacked-removed
