use Rattle.law_desktop.proofs.PointerAside.Marking.{rounds-mark-ends}
use Rattle.law_desktop.proofs.pointed.rounds_mark_ends.Goals as goal

pub returns : goal.returns
returns c = rounds-mark-ends
