use Rattle.law_desktop.proofs.PointerAside.Acting.{motions-act}
use Rattle.law_desktop.proofs.pointed.motions_act.Goals as goal

pub returns : goal.returns
returns c = motions-act
