use Rattle.law_windows.proofs.OneToplevel.Shifted.{moves-are-marked}
use Rattle.law_windows.proofs.runs.moves.moves_are_marked.Goals as goal

pub returns : goal.returns
returns g c = moves-are-marked _ c.marks_by_trees_between.ensures
