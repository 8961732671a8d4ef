use Rattle.law_windows.proofs.PopupsDismissed.Pressed.{presses-dismiss}
use Rattle.law_windows.proofs.grabs.presses.presses_dismiss.Goals as goal

pub returns : goal.returns
returns c = presses-dismiss
