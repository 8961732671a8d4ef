use Rattle.law_windows.proofs.OneToplevel.Numbered.{finds-by-numbers}
use Rattle.law_windows.proofs.runs.lookup.finds_by_numbers.Goals as goal

pub returns : goal.returns
returns g c = finds-by-numbers _
