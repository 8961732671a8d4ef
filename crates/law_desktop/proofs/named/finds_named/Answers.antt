use Rattle.law_desktop.proofs.ByNames.Tying.{finds-named}
use Rattle.law_desktop.proofs.named.finds_named.Goals as goal

pub returns : goal.returns
returns c = finds-named
