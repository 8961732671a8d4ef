use Rattle.law_desktop.proofs.PointerAside.Messages.{pointer-apart-through}
use Rattle.law_desktop.proofs.pointed.pointer_apart_through.Goals as goal

pub returns : goal.returns
returns c = pointer-apart-through
