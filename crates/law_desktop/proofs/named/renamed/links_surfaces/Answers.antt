use Rattle.law_desktop.proofs.ByNames.Names.Done.{links-surfaces}
use Rattle.law_desktop.proofs.named.renamed.links_surfaces.Goals as goal

pub returns : goal.returns
returns c = links-surfaces
