use Rattle.law_desktop.proofs.ByNames.Telling.{tells-unlink}
use Rattle.law_desktop.proofs.named.tells_unlink.Goals as goal

pub returns : goal.returns
returns g c = tells-unlink c.args.changes.now
