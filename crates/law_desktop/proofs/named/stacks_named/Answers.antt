use Rattle.law_desktop.proofs.ByNames.Tying.{stacks-named}
use Rattle.law_desktop.proofs.named.stacks_named.Goals as goal

pub returns : goal.returns
returns c = stacks-named
