use Rattle.wl_scene.proofs.Standing.{stacked-run-gone}
use Rattle.wl_scene.proofs.stacking.stacked_run_gone.Goals as goal

pub returns : goal.returns
returns c = stacked-run-gone
