use Rattle.law_desktop.proofs.TreeMarks.Tree.{marks-tree-alone}
use Rattle.law_desktop.proofs.invariants.tree_marks.marks_tree_alone.Goals as goal

pub returns : goal.returns
returns c = marks-tree-alone
