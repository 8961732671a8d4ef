use Rattle.law_windows.proofs.OneToplevel.Told.{told-together-by-name}
use Rattle.law_windows.proofs.runs.marks.told_together_by_name.Goals as goal

pub returns : goal.returns
returns c = told-together-by-name
