use Rattle.law_desktop.proofs.MessageWays.Ends.{untold_is_gone}
use Rattle.law_desktop.proofs.ways.untold_is_gone.Goals as goal

pub returns : goal.returns
returns c = untold_is_gone
