use Rattle.law_desktop.proofs.OwnedPopups.Naming.{roles-named}
use Rattle.law_desktop.proofs.owning.roles_are_named.Goals as goal

pub returns : goal.returns
returns c = roles-named
