use Rattle.law_windows.proofs.PopupsDismissed.Gone.{dismissed-windows-go}
use Rattle.law_windows.proofs.grabs.windows.dismissed_windows_go.Goals as goal

pub returns : goal.returns
returns c = dismissed-windows-go
