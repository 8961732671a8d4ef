use Rattle.law_desktop.proofs.PointerAside.Pointing.{pointers-stay}
use Rattle.law_desktop.proofs.pointed.pointers_stay.Goals as goal

pub returns : goal.returns
returns c = pointers-stay
