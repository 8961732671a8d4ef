use Rattle.law_desktop.proofs.ByNames.Names.Done.{changes-surface}
use Rattle.law_desktop.proofs.named.renamed.changes_surface.Goals as goal

pub returns : goal.returns
returns c = changes-surface
