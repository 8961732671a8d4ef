use Rattle.law_desktop.proofs.PointerAside.ByRounds.{buttons-raise}
use Rattle.law_desktop.proofs.pointed.buttons_raise.Goals as goal

pub returns : goal.returns
returns c = buttons-raise
