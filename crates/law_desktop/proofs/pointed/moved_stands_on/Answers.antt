use Rattle.law_desktop.proofs.PointerAside.Moved.{moved-stands-on}
use Rattle.law_desktop.proofs.pointed.moved_stands_on.Goals as goal

pub returns : goal.returns
returns c = moved-stands-on
