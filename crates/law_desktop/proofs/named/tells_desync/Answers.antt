use Rattle.law_desktop.proofs.ByNames.Telling.{tells-desync}
use Rattle.law_desktop.proofs.named.tells_desync.Goals as goal

pub returns : goal.returns
returns g c = tells-desync c.args.changes.now
