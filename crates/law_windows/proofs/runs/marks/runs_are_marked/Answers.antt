use Rattle.law_windows.proofs.OneToplevel.Marked.{runs-are-marked}
use Rattle.law_windows.proofs.runs.marks.runs_are_marked.Goals as goal

pub returns : goal.returns
returns g c = runs-are-marked _ c.marks_by_trees_between.ensures
