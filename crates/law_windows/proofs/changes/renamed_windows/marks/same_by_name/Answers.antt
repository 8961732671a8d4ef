use Rattle.law_windows.proofs.RenamedWindows.Told.{same-by-name}
use Rattle.law_windows.proofs.changes.renamed_windows.marks.same_by_name.Goals as goal

pub returns : goal.returns
returns c = same-by-name c.same_as_records.ensures
