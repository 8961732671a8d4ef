use Rattle.law_windows.proofs.RepaintBetween.{marks-between}
use Rattle.law_windows.proofs.repainting.marks_between.Goals as goal

pub returns : goal.returns
returns g c = marks-between _ c.is_tree_of_root.ensures c.marks_damage_alone.ensures c.marks_tree_alone.ensures c.may_mark_whole_tree.ensures
