use Rattle.wl_surface.proofs.Heights.{same-refusals}
use Rattle.wl_surface.proofs.tree_laws.have_same_refusals.Goals as goal

pub returns : goal.returns
returns c = same-refusals
