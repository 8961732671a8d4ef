use Rattle.law_desktop.proofs.PointerAside.Whole.{steps-by-rounds}
use Rattle.law_desktop.proofs.pointed.steps_by_rounds.Goals as goal

pub returns : goal.returns
returns c = steps-by-rounds
