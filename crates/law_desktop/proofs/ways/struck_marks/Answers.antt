use Rattle.law_desktop.proofs.MessageWays.Marks.{struck_marks}
use Rattle.law_desktop.proofs.ways.struck_marks.Goals as goal

pub returns : goal.returns
returns c = struck_marks
