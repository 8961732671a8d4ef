use Rattle.wl_scene.proofs.Standing.{run-is-stacked}
use Rattle.wl_scene.proofs.stacking.run_is_stacked.Goals as goal

pub returns : goal.returns
returns c = run-is-stacked
