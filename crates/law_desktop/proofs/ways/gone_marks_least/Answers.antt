use Rattle.law_desktop.proofs.MessageWays.Gone.{gone_marks_least}
use Rattle.law_desktop.proofs.ways.gone_marks_least.Goals as goal

pub returns : goal.returns
returns c = gone_marks_least
