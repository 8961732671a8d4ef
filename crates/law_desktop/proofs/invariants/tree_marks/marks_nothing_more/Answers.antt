use Rattle.law_desktop.proofs.TreeMarks.Whole.{marks-nothing-more}
use Rattle.law_desktop.proofs.invariants.tree_marks.marks_nothing_more.Goals as goal

pub returns : goal.returns
returns c = marks-nothing-more
