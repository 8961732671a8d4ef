use Rattle.law_desktop.proofs.PointerAside.ByRounds.{buttons-by-rounds}
use Rattle.law_desktop.proofs.pointed.buttons_by_rounds.Goals as goal

pub returns : goal.returns
returns c = buttons-by-rounds
