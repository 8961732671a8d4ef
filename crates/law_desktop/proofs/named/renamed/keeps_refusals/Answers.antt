use Rattle.law_desktop.proofs.ByNames.Names.Known.{keeps-refusals}
use Rattle.law_desktop.proofs.named.renamed.keeps_refusals.Goals as goal

pub returns : goal.returns
returns c = keeps-refusals
