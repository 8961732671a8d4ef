use Rattle.law_desktop.proofs.PointerAside.Rounds.{rounds-are-few}
use Rattle.law_desktop.proofs.pointed.rounds_are_few.Goals as goal

pub returns : goal.returns
returns c = rounds-are-few
