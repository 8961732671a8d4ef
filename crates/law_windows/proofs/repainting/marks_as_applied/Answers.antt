use Rattle.law_windows.proofs.RepaintLaw.{marks-as-applied}
use Rattle.law_windows.proofs.repainting.marks_as_applied.Goals as goal

pub returns : goal.returns
returns g c = marks-as-applied _
