use Rattle.law_windows.proofs.OneToplevel.Turned.{run-stays}
use Rattle.law_windows.proofs.runs.kept.run_stays.Goals as goal

pub returns : goal.returns
returns c = run-stays
