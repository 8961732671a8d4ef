use Rattle.law_desktop.proofs.TreeMarks.Whole.{may-mark-whole-tree}
use Rattle.law_desktop.proofs.invariants.tree_marks.may_mark_whole_tree.Goals as goal

pub returns : goal.returns
returns c = may-mark-whole-tree
