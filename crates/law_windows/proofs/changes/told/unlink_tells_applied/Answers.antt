use Rattle.law_windows.proofs.ToldDamage.Links.{unlink-tells}
use Rattle.law_windows.proofs.changes.told.unlink_tells_applied.Goals as goal

pub returns : goal.returns
returns g c = unlink-tells _
