use Rattle.law_desktop.proofs.ByNames.Named.{asks-named}
use Rattle.law_desktop.proofs.named.asks_named.Goals as goal

pub returns : goal.returns
returns c = asks-named
