use Rattle.law_windows.proofs.ToldDamage.Shown.{tells-windows}
use Rattle.law_windows.proofs.changes.told.tells_windows.Goals as goal

pub returns : goal.returns
returns g c = tells-windows _
