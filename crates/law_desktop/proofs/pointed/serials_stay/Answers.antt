use Rattle.law_desktop.proofs.PointerAside.Serials.{serials-stay}
use Rattle.law_desktop.proofs.pointed.serials_stay.Goals as goal

pub returns : goal.returns
returns c = serials-stay
