use Rattle.law_desktop.proofs.ByNames.Names.Done.{destroys-surface}
use Rattle.law_desktop.proofs.named.renamed.destroys_surface.Goals as goal

pub returns : goal.returns
returns c = destroys-surface
