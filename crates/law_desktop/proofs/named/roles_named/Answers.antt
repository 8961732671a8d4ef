use Rattle.law_desktop.proofs.ByNames.Named.{roles-named}
use Rattle.law_desktop.proofs.named.roles_named.Goals as goal

pub returns : goal.returns
returns c = roles-named
