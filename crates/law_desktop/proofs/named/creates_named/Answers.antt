use Rattle.law_desktop.proofs.ByNames.Renaming.{creates-named}
use Rattle.law_desktop.proofs.named.creates_named.Goals as goal

pub returns : goal.returns
returns c = creates-named
