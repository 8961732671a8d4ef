use Rattle.wl_surface.proofs.Linking.{sets-mode}
use Rattle.wl_surface.proofs.tree_laws.sets_mode.Goals as goal

pub returns : goal.returns
returns c = sets-mode
