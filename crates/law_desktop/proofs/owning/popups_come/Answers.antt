use Rattle.law_desktop.proofs.OwnedPopups.Coming.{popups-come}
use Rattle.law_desktop.proofs.owning.popups_come.Goals as goal

pub returns : goal.returns
returns c = popups-come
