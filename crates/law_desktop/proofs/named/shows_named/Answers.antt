use Rattle.law_desktop.proofs.ByNames.Renaming.{shows-named}
use Rattle.law_desktop.proofs.named.shows_named.Goals as goal

pub returns : goal.returns
returns c = shows-named
