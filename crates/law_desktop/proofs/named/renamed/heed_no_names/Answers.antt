use Rattle.law_desktop.proofs.ByNames.Names.Done.{heed-no-names}
use Rattle.law_desktop.proofs.named.renamed.heed_no_names.Goals as goal

pub returns : goal.returns
returns c = heed-no-names
