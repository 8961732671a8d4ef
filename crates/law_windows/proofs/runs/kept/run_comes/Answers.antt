use Rattle.law_windows.proofs.OneToplevel.Turned.{run-comes}
use Rattle.law_windows.proofs.runs.kept.run_comes.Goals as goal

pub returns : goal.returns
returns c = run-comes
