use Rattle.law_windows.proofs.OneToplevel.Shifted.{raises-lift-runs}
use Rattle.law_windows.proofs.runs.moves.raises_lift_runs.Goals as goal

pub returns : goal.returns
returns c = raises-lift-runs
