use Rattle.wl_surface.proofs.Linking.{ends-link}
use Rattle.wl_surface.proofs.tree_laws.ends_link.Goals as goal

pub returns : goal.returns
returns c = ends-link
