use Rattle.law_desktop.proofs.ByNames.Tying.{ties-named}
use Rattle.law_desktop.proofs.named.ties_named.Goals as goal

pub returns : goal.returns
returns c = ties-named
