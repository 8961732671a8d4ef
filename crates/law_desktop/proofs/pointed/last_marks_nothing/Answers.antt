use Rattle.law_desktop.proofs.PointerAside.Marking.{last-marks-nothing}
use Rattle.law_desktop.proofs.pointed.last_marks_nothing.Goals as goal

pub returns : goal.returns
returns c = last-marks-nothing
