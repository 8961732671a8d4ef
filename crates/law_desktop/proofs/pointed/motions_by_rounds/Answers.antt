use Rattle.law_desktop.proofs.PointerAside.ByRounds.{motions-by-rounds}
use Rattle.law_desktop.proofs.pointed.motions_by_rounds.Goals as goal

pub returns : goal.returns
returns c = motions-by-rounds
