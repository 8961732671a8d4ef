use Rattle.law_desktop.proofs.OwnedPopups.Knowing.{roles-known}
use Rattle.law_desktop.proofs.owning.roles_are_known.Goals as goal

pub returns : goal.returns
returns c = roles-known
