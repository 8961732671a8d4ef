use Rattle.law_desktop.proofs.ByNames.Named.{stays-named}
use Rattle.law_desktop.proofs.named.stays_named.Goals as goal

pub returns : goal.returns
returns c = stays-named
