use Rattle.law_desktop.proofs.PointerAside.Messages.{pointer-apart}
use Rattle.law_desktop.proofs.pointed.pointer_apart.Goals as goal

pub returns : goal.returns
returns c = pointer-apart
