use Rattle.law_desktop.proofs.ByNames.Names.Known.{names-those-there}
use Rattle.law_desktop.proofs.named.renamed.names_those_there.Goals as goal

pub returns : goal.returns
returns c = names-those-there
