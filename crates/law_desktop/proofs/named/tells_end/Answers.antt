use Rattle.law_desktop.proofs.ByNames.Telling.{tells-end}
use Rattle.law_desktop.proofs.named.tells_end.Goals as goal

pub returns : goal.returns
returns g c = tells-end c.args.changes.now
