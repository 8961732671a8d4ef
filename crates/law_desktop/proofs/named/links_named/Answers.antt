use Rattle.law_desktop.proofs.ByNames.Named.{links-named}
use Rattle.law_desktop.proofs.named.links_named.Goals as goal

pub returns : goal.returns
returns c = links-named
