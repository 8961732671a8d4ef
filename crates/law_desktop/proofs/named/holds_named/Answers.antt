use Rattle.law_desktop.proofs.ByNames.Reading.{holds-named}
use Rattle.law_desktop.proofs.named.holds_named.Goals as goal

pub returns : goal.returns
returns c = holds-named
