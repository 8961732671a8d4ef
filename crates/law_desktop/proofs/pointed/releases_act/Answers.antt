use Rattle.law_desktop.proofs.PointerAside.Acting.{releases-act}
use Rattle.law_desktop.proofs.pointed.releases_act.Goals as goal

pub returns : goal.returns
returns c = releases-act
