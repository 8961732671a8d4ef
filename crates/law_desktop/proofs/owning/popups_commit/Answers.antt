use Rattle.law_desktop.proofs.OwnedPopups.Committing.{popups-commit}
use Rattle.law_desktop.proofs.owning.popups_commit.Goals as goal

pub returns : goal.returns
returns c = popups-commit
