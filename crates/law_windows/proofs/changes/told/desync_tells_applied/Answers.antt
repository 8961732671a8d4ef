use Rattle.law_windows.proofs.ToldDamage.Links.{desync-tells}
use Rattle.law_windows.proofs.changes.told.desync_tells_applied.Goals as goal

pub returns : goal.returns
returns g c = desync-tells _
