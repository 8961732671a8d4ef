use Rattle.law_desktop.proofs.ByNames.Named.{commits-named}
use Rattle.law_desktop.proofs.named.commits_named.Goals as goal

pub returns : goal.returns
returns c = commits-named
