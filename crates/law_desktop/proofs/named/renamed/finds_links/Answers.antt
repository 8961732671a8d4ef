use Rattle.law_desktop.proofs.ByNames.Names.Known.{finds-links}
use Rattle.law_desktop.proofs.named.renamed.finds_links.Goals as goal

pub returns : goal.returns
returns c = finds-links
