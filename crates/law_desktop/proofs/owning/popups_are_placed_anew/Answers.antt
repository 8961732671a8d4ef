use Rattle.law_desktop.proofs.OwnedPopups.Repositioning.{popups-anew}
use Rattle.law_desktop.proofs.owning.popups_are_placed_anew.Goals as goal

pub returns : goal.returns
returns c = popups-anew
