use Rattle.law_desktop.proofs.TreeMarks.Damage.{marks-damage-alone}
use Rattle.law_desktop.proofs.invariants.tree_marks.marks_damage_alone.Goals as goal

pub returns : goal.returns
returns c = marks-damage-alone
