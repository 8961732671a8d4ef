use Rattle.law_windows.proofs.ToldDamage.Calls.{commit-tells}
use Rattle.law_windows.proofs.changes.told.commit_tells_applied.Goals as goal

pub returns : goal.returns
returns g c = commit-tells _
