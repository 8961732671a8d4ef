use Rattle.law_desktop.proofs.MessageWays.Ends.{ended_is_gone}
use Rattle.law_desktop.proofs.ways.ended_is_gone.Goals as goal

pub returns : goal.returns
returns c = ended_is_gone
