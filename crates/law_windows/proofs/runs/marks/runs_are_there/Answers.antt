use Rattle.law_windows.proofs.OneToplevel.Marked.{runs-are-there}
use Rattle.law_windows.proofs.runs.marks.runs_are_there.Goals as goal

pub returns : goal.returns
returns c = runs-are-there
