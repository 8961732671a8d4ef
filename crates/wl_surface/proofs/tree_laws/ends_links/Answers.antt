use Rattle.wl_surface.proofs.TreesEnding.{ends-links}
use Rattle.wl_surface.proofs.tree_laws.ends_links.Goals as goal

pub returns : goal.returns
returns c = ends-links
