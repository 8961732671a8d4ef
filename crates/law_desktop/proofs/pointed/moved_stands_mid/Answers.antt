use Rattle.law_desktop.proofs.PointerAside.Moved.{moved-stands-mid}
use Rattle.law_desktop.proofs.pointed.moved_stands_mid.Goals as goal

pub returns : goal.returns
returns c = moved-stands-mid
