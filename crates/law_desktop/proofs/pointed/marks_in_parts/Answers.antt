use Rattle.law_desktop.proofs.PointerAside.Marking.{marks-in-parts}
use Rattle.law_desktop.proofs.pointed.marks_in_parts.Goals as goal

pub returns : goal.returns
returns c = marks-in-parts
