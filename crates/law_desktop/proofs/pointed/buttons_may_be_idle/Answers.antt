use Rattle.law_desktop.proofs.PointerAside.ByRounds.{buttons-may-be-idle}
use Rattle.law_desktop.proofs.pointed.buttons_may_be_idle.Goals as goal

pub returns : goal.returns
returns c = buttons-may-be-idle
