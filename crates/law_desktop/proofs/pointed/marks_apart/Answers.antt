use Rattle.law_desktop.proofs.PointerAside.Marking.{marks-apart}
use Rattle.law_desktop.proofs.pointed.marks_apart.Goals as goal

pub returns : goal.returns
returns c = marks-apart
