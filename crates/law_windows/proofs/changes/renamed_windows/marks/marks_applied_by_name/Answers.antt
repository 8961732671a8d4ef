use Rattle.law_windows.proofs.RenamedWindows.Told.{marks-applied-by-name}
use Rattle.law_windows.proofs.changes.renamed_windows.marks.marks_applied_by_name.Goals as goal

pub returns : goal.returns
returns g c = marks-applied-by-name _ c.same_by_name.ensures
