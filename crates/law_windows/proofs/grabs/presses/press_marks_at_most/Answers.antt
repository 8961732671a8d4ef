use Rattle.law_windows.proofs.PopupsDismissed.Raised.{press-marks-at-most}
use Rattle.law_windows.proofs.grabs.presses.press_marks_at_most.Goals as goal

pub returns : goal.returns
returns c = press-marks-at-most
