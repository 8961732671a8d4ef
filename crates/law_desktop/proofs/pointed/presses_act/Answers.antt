use Rattle.law_desktop.proofs.PointerAside.Acting.{presses-act}
use Rattle.law_desktop.proofs.pointed.presses_act.Goals as goal

pub returns : goal.returns
returns c = presses-act
