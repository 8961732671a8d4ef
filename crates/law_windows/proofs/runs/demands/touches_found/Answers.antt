use Rattle.law_windows.proofs.OneToplevel.Demanded.{touches-found}
use Rattle.law_windows.proofs.runs.demands.touches_found.Goals as goal

pub returns : goal.returns
returns g c = touches-found _ c.marks_by_trees_between.ensures
