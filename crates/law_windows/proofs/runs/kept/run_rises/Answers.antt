use Rattle.law_windows.proofs.OneToplevel.Turned.{run-rises}
use Rattle.law_windows.proofs.runs.kept.run_rises.Goals as goal

pub returns : goal.returns
returns c = run-rises
