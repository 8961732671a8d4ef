use Rattle.law_desktop.proofs.PointerAside.Unshown.{new-pointer-shows-nothing}
use Rattle.law_desktop.proofs.pointed.new_pointer_shows_nothing.Goals as goal

pub returns : goal.returns
returns c = new-pointer-shows-nothing
