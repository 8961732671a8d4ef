use Rattle.law_desktop.proofs.ByNames.Names.Done.{removes-surface}
use Rattle.law_desktop.proofs.named.renamed.removes_surface.Goals as goal

pub returns : goal.returns
returns c = removes-surface
