use Rattle.law_desktop.proofs.OwnedPopups.Dismissing.{popups-dismissed}
use Rattle.law_desktop.proofs.owning.popups_are_dismissed.Goals as goal

pub returns : goal.returns
returns c = popups-dismissed
