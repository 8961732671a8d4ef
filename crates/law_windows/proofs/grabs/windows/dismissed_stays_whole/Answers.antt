use Rattle.law_windows.proofs.PopupsDismissed.Whole.{dismissed-stays-whole}
use Rattle.law_windows.proofs.grabs.windows.dismissed_stays_whole.Goals as goal

pub returns : goal.returns
returns c = dismissed-stays-whole
