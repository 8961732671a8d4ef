use Rattle.law_desktop.proofs.ByNames.Names.Known.{keeps-descent}
use Rattle.law_desktop.proofs.named.renamed.keeps_descent.Goals as goal

pub returns : goal.returns
returns c = keeps-descent
