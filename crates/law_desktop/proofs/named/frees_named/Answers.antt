use Rattle.law_desktop.proofs.ByNames.Reading.{frees-named}
use Rattle.law_desktop.proofs.named.frees_named.Goals as goal

pub returns : goal.returns
returns c = frees-named
