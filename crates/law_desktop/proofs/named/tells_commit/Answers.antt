use Rattle.law_desktop.proofs.ByNames.Telling.{tells-commit}
use Rattle.law_desktop.proofs.named.tells_commit.Goals as goal

pub returns : goal.returns
returns g c = tells-commit c.args.changes.now
