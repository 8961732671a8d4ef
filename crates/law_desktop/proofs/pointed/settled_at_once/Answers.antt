use Rattle.law_desktop.proofs.PointerAside.Rounds.{settled-at-once}
use Rattle.law_desktop.proofs.pointed.settled_at_once.Goals as goal

pub returns : goal.returns
returns c = settled-at-once
