use Rattle.law_desktop.proofs.NobodyPoints.Laws.{grabs_dismiss}
use Rattle.law_desktop.proofs.invariants.nobody_points.grabs_dismiss.Goals as goal

pub returns : goal.returns
returns c = grabs_dismiss
