use Rattle.law_desktop.proofs.MessageWays.Gone.{gone_windows}
use Rattle.law_desktop.proofs.ways.gone_windows.Goals as goal

pub returns : goal.returns
returns c = gone_windows
