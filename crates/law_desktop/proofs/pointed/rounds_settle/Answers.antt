use Rattle.law_desktop.proofs.PointerAside.Rounds.{rounds-settle}
use Rattle.law_desktop.proofs.pointed.rounds_settle.Goals as goal

pub returns : goal.returns
returns c = rounds-settle
