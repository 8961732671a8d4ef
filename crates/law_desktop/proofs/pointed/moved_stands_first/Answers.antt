use Rattle.law_desktop.proofs.PointerAside.Moved.{moved-stands-first}
use Rattle.law_desktop.proofs.pointed.moved_stands_first.Goals as goal

pub returns : goal.returns
returns c = moved-stands-first
