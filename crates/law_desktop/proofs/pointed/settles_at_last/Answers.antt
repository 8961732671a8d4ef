use Rattle.law_desktop.proofs.PointerAside.Rounds.{settles-at-last}
use Rattle.law_desktop.proofs.pointed.settles_at_last.Goals as goal

pub returns : goal.returns
returns c = settles-at-last
