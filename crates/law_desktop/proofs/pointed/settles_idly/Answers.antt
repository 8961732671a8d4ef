use Rattle.law_desktop.proofs.PointerAside.Rounds.{settles-idly}
use Rattle.law_desktop.proofs.pointed.settles_idly.Goals as goal

pub returns : goal.returns
returns c = settles-idly
