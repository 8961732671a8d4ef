use Rattle.law_windows.proofs.OneToplevel.Shifted.{run-is-of-all}
use Rattle.law_windows.proofs.runs.moves.run_is_of_all.Goals as goal

pub returns : goal.returns
returns c = run-is-of-all
