use Rattle.law_desktop.proofs.PointerAside.Acting.{goes-along}
use Rattle.law_desktop.proofs.pointed.goes_along.Goals as goal

pub returns : goal.returns
returns c = goes-along
