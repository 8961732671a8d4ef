use Rattle.law_windows.proofs.PopupsDismissed.Shown.{dismissed-stays-shown}
use Rattle.law_windows.proofs.grabs.windows.dismissed_stays_shown.Goals as goal

pub returns : goal.returns
returns c = dismissed-stays-shown
