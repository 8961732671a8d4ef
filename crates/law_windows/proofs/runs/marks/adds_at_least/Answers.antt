use Rattle.law_windows.proofs.OneToplevel.Marked.{adds-at-least}
use Rattle.law_windows.proofs.runs.marks.adds_at_least.Goals as goal

pub returns : goal.returns
returns g c = adds-at-least _
