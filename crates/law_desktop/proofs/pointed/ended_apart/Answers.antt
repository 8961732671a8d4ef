use Rattle.law_desktop.proofs.PointerAside.Happenings.{ended-apart}
use Rattle.law_desktop.proofs.pointed.ended_apart.Goals as goal

pub returns : goal.returns
returns c = ended-apart
