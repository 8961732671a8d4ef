use Rattle.law_desktop.proofs.ByNames.Renaming.{begins-named}
use Rattle.law_desktop.proofs.named.begins_named.Goals as goal

pub returns : goal.returns
returns c = begins-named
