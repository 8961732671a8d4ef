use Rattle.law_desktop.proofs.ByNames.Renaming.{renames-named}
use Rattle.law_desktop.proofs.named.renames_named.Goals as goal

pub returns : goal.returns
returns c = renames-named
