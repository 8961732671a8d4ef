use Rattle.law_desktop.proofs.MarkedTrees.{marks-by-trees-between}
use Rattle.law_desktop.proofs.toplevels.marked.marks_by_trees_between.Goals as goal

pub returns : goal.returns
returns c = marks-by-trees-between
