use Rattle.law_desktop.proofs.PointerAside.Marking.{settling-marks-nothing}
use Rattle.law_desktop.proofs.pointed.settling_marks_nothing.Goals as goal

pub returns : goal.returns
returns c = settling-marks-nothing
