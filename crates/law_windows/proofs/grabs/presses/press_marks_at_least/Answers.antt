use Rattle.law_windows.proofs.PopupsDismissed.Raised.{press-marks-at-least}
use Rattle.law_windows.proofs.grabs.presses.press_marks_at_least.Goals as goal

pub returns : goal.returns
returns c = press-marks-at-least
