use Rattle.law_windows.proofs.OneToplevel.Marked.{run-is-told}
use Rattle.law_windows.proofs.runs.marks.run_is_told.Goals as goal

pub returns : goal.returns
returns g c = run-is-told _
