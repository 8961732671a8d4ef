use Rattle.law_desktop.proofs.PointerAside.Rounds.{motions-end}
use Rattle.law_desktop.proofs.pointed.motions_end.Goals as goal

pub returns : goal.returns
returns c = motions-end
