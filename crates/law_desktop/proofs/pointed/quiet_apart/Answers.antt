use Rattle.law_desktop.proofs.PointerAside.Happenings.{quiet-apart}
use Rattle.law_desktop.proofs.pointed.quiet_apart.Goals as goal

pub returns : goal.returns
returns c = quiet-apart
