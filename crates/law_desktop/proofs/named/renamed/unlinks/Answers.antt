use Rattle.law_desktop.proofs.ByNames.Names.Done.{unlinks}
use Rattle.law_desktop.proofs.named.renamed.unlinks.Goals as goal

pub returns : goal.returns
returns c = unlinks
