use Rattle.wl_viewer.proofs.Lines.{lines_are_taken}
use Rattle.wl_viewer.proofs.laws.lines_are_taken.Goals as goal

pub returns : goal.returns
returns c = lines_are_taken
