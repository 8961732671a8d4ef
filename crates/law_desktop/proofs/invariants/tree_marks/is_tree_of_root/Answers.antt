use Rattle.law_desktop.proofs.TreeMarks.Roots.{is-tree-of-root}
use Rattle.law_desktop.proofs.invariants.tree_marks.is_tree_of_root.Goals as goal

pub returns : goal.returns
returns c = is-tree-of-root
