use Rattle.law_windows.proofs.RenamedWindows.Shown.{shows-those-there}
use Rattle.law_windows.proofs.changes.renamed_windows.windows.shows_those_there.Goals as goal

pub returns : goal.returns
returns c = shows-those-there
