use Rattle.law_desktop.proofs.PointerAside.Ended.{ended-stay}
use Rattle.law_desktop.proofs.pointed.ended_stay.Goals as goal

pub returns : goal.returns
returns c = ended-stay
