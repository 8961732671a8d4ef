use Rattle.law_windows.proofs.OneToplevel.Marked.{adds-at-most}
use Rattle.law_windows.proofs.runs.marks.adds_at_most.Goals as goal

pub returns : goal.returns
returns g c = adds-at-most _
