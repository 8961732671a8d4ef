use Rattle.law_desktop.proofs.MessageWays.Ends.{end_is_gone}
use Rattle.law_desktop.proofs.ways.end_is_gone.Goals as goal

pub returns : goal.returns
returns c = end_is_gone
