use Rattle.law_desktop.proofs.ByNames.Names.Done.{creates-surface}
use Rattle.law_desktop.proofs.named.renamed.creates_surface.Goals as goal

pub returns : goal.returns
returns c = creates-surface
