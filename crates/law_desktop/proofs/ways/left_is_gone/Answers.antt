use Rattle.law_desktop.proofs.MessageWays.Ends.{left_is_gone}
use Rattle.law_desktop.proofs.ways.left_is_gone.Goals as goal

pub returns : goal.returns
returns c = left_is_gone
