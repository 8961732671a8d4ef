use Rattle.wl_scene.proofs.Standing.{stacked-are-told}
use Rattle.wl_scene.proofs.stacking.stacked_are_told.Goals as goal

pub returns : goal.returns
returns c = stacked-are-told
