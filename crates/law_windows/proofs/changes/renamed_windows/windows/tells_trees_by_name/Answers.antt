use Rattle.law_windows.proofs.RenamedWindows.Trees.{tells-trees-by-name}
use Rattle.law_windows.proofs.changes.renamed_windows.windows.tells_trees_by_name.Goals as goal

pub returns : goal.returns
returns c = tells-trees-by-name
