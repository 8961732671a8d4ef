use Rattle.law_desktop.proofs.PointerAside.Entering.{new-pointer-apart}
use Rattle.law_desktop.proofs.pointed.new_pointer_apart.Goals as goal

pub returns : goal.returns
returns c = new-pointer-apart
