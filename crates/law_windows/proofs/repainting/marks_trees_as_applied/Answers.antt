use Rattle.law_windows.proofs.ToldTrees.{marks-trees-as-applied}
use Rattle.law_windows.proofs.repainting.marks_trees_as_applied.Goals as goal

pub returns : goal.returns
returns g c = marks-trees-as-applied _
