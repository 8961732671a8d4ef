use Rattle.law_windows.proofs.ToldDamage.Shown.{between-is-applied}
use Rattle.law_windows.proofs.changes.told.between_is_applied.Goals as goal

pub returns : goal.returns
returns c = between-is-applied
