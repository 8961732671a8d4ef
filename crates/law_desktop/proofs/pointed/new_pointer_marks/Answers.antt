use Rattle.law_desktop.proofs.PointerAside.Marking.{new-pointer-marks}
use Rattle.law_desktop.proofs.pointed.new_pointer_marks.Goals as goal

pub returns : goal.returns
returns c = new-pointer-marks
