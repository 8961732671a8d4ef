use Rattle.law_desktop.proofs.ByNames.Names.Done.{commits-surface}
use Rattle.law_desktop.proofs.named.renamed.commits_surface.Goals as goal

pub returns : goal.returns
returns c = commits-surface
