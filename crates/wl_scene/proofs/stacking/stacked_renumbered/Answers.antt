use Rattle.wl_scene.proofs.Standing.{stacked-renumbered}
use Rattle.wl_scene.proofs.stacking.stacked_renumbered.Goals as goal

pub returns : goal.returns
returns c = stacked-renumbered
