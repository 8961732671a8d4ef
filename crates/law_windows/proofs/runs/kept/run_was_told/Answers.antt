use Rattle.law_windows.proofs.OneToplevel.Turned.{run-was-told}
use Rattle.law_windows.proofs.runs.kept.run_was_told.Goals as goal

pub returns : goal.returns
returns c = run-was-told
