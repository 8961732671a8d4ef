use Rattle.law_windows.proofs.PopupsDismissed.Marked.{dismissal-marks}
use Rattle.law_windows.proofs.grabs.marks.dismissal_marks.Goals as goal

pub returns : goal.returns
returns c = dismissal-marks
