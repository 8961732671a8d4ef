use Rattle.wl_scene.proofs.Standing.{stacked-client-gone}
use Rattle.wl_scene.proofs.stacking.stacked_client_gone.Goals as goal

pub returns : goal.returns
returns c = stacked-client-gone
