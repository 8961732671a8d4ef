use Rattle.law_desktop.proofs.NobodyPoints.Laws.{grabs_are_refused}
use Rattle.law_desktop.proofs.invariants.nobody_points.grabs_are_refused.Goals as goal

pub returns : goal.returns
returns c = grabs_are_refused
