use Rattle.law_desktop.proofs.ByNames.Names.Done.{applies-tree}
use Rattle.law_desktop.proofs.named.renamed.applies_tree.Goals as goal

pub returns : goal.returns
returns c = applies-tree
