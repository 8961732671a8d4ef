use Rattle.law_desktop.proofs.MessageWays.Marks.{twice_marks}
use Rattle.law_desktop.proofs.ways.twice_marks.Goals as goal

pub returns : goal.returns
returns c = twice_marks
