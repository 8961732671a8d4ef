use Rattle.law_windows.proofs.OneToplevel.Renamed.{runs-heed-no-names}
use Rattle.law_windows.proofs.runs.names.runs_heed_no_names.Goals as goal

pub returns : goal.returns
returns c = runs-heed-no-names
