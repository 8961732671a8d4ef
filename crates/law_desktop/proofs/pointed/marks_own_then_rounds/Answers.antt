use Rattle.law_desktop.proofs.PointerAside.Marking.{marks-own-then-rounds}
use Rattle.law_desktop.proofs.pointed.marks_own_then_rounds.Goals as goal

pub returns : goal.returns
returns c = marks-own-then-rounds
