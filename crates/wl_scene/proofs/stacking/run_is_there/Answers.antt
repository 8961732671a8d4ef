use Rattle.wl_scene.proofs.Standing.{run-is-there}
use Rattle.wl_scene.proofs.stacking.run_is_there.Goals as goal

pub returns : goal.returns
returns c = run-is-there
