use Rattle.law_desktop.proofs.OwnedPopups.Grabbing.{popups-grab}
use Rattle.law_desktop.proofs.owning.popups_grab.Goals as goal

pub returns : goal.returns
returns c = popups-grab
