use Rattle.law_windows.proofs.OneToplevel.Told.{marks-trees-by-name}
use Rattle.law_windows.proofs.runs.marks.marks_trees_by_name.Goals as goal

pub returns : goal.returns
returns g c = marks-trees-by-name _
