use Rattle.law_desktop.proofs.OwnedPopups.Ending.{toplevels-go}
use Rattle.law_desktop.proofs.owning.toplevels_go.Goals as goal

pub returns : goal.returns
returns c = toplevels-go
