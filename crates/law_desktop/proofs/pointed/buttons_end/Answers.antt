use Rattle.law_desktop.proofs.PointerAside.Rounds.{buttons-end}
use Rattle.law_desktop.proofs.pointed.buttons_end.Goals as goal

pub returns : goal.returns
returns c = buttons-end
