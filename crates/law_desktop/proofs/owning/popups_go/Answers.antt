use Rattle.law_desktop.proofs.OwnedPopups.Going.{popups-go}
use Rattle.law_desktop.proofs.owning.popups_go.Goals as goal

pub returns : goal.returns
returns c = popups-go
