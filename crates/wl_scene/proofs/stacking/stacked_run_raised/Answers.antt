use Rattle.wl_scene.proofs.Raised.{stacked-run-raised}
use Rattle.wl_scene.proofs.stacking.stacked_run_raised.Goals as goal

pub returns : goal.returns
returns c = stacked-run-raised
