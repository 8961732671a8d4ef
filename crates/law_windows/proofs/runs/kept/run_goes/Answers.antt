use Rattle.law_windows.proofs.OneToplevel.Turned.{run-goes}
use Rattle.law_windows.proofs.runs.kept.run_goes.Goals as goal

pub returns : goal.returns
returns c = run-goes
