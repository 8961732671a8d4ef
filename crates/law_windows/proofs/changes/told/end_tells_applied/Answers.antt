use Rattle.law_windows.proofs.ToldDamage.Going.{end-tells}
use Rattle.law_windows.proofs.changes.told.end_tells_applied.Goals as goal

pub returns : goal.returns
returns g c = end-tells _
