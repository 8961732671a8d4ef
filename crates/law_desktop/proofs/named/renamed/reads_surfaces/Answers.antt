use Rattle.law_desktop.proofs.ByNames.Names.Known.{reads-surfaces}
use Rattle.law_desktop.proofs.named.renamed.reads_surfaces.Goals as goal

pub returns : goal.returns
returns c = reads-surfaces
