use Rattle.law_windows.proofs.OneToplevel.Renamed.{placed-roots-have-runs}
use Rattle.law_windows.proofs.runs.names.placed_roots_have_runs.Goals as goal

pub returns : goal.returns
returns c = placed-roots-have-runs
