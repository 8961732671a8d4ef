use Rattle.law_desktop.proofs.PointerAside.Entering.{new-pointer-apart-through}
use Rattle.law_desktop.proofs.pointed.new_pointer_apart_through.Goals as goal

pub returns : goal.returns
returns c = new-pointer-apart-through
