use Rattle.law_desktop.proofs.ByNames.Tying.{siblings-named}
use Rattle.law_desktop.proofs.named.siblings_named.Goals as goal

pub returns : goal.returns
returns c = siblings-named
