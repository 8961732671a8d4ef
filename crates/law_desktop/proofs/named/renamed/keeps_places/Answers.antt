use Rattle.law_desktop.proofs.ByNames.Names.Known.{keeps-places}
use Rattle.law_desktop.proofs.named.renamed.keeps_places.Goals as goal

pub returns : goal.returns
returns c = keeps-places
