use Rattle.law_windows.proofs.OneToplevel.Renamed.{roots-heed-no-names}
use Rattle.law_windows.proofs.runs.names.roots_heed_no_names.Goals as goal

pub returns : goal.returns
returns c = roots-heed-no-names
