use Rattle.law_windows.proofs.RenamedWindows.Trees.{trees-heed-no-names}
use Rattle.law_windows.proofs.changes.renamed_windows.windows.trees_heed_no_names.Goals as goal

pub returns : goal.returns
returns c = trees-heed-no-names
