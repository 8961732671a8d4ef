use Rattle.law_desktop.proofs.ByNames.Reading.{refuses-named}
use Rattle.law_desktop.proofs.named.refuses_named.Goals as goal

pub returns : goal.returns
returns c = refuses-named
