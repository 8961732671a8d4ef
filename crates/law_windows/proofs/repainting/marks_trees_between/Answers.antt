use Rattle.law_windows.proofs.ToldTrees.{marks-trees-between}
use Rattle.law_windows.proofs.repainting.marks_trees_between.Goals as goal

pub returns : goal.returns
returns g c = marks-trees-between _ c.marks_by_trees_between.ensures
