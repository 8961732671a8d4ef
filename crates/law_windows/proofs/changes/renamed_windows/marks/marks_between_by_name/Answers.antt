use Rattle.law_windows.proofs.RenamedWindows.Between.{marks-between-by-name}
use Rattle.law_windows.proofs.changes.renamed_windows.marks.marks_between_by_name.Goals as goal

pub returns : goal.returns
returns g c =
    marks-between-by-name _ c.marks_applied_by_name.ensures c.is_tree_of_root.ensures c.marks_damage_alone.ensures c.marks_tree_alone.ensures
    c.may_mark_whole_tree.ensures
