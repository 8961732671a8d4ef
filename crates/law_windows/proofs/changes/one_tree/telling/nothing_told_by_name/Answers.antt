use Rattle.law_windows.proofs.OneTree.Named.{nothing-told-by-name}
use Rattle.law_windows.proofs.changes.one_tree.telling.nothing_told_by_name.Goals as goal

pub returns : goal.returns
returns g c = nothing-told-by-name _ c.applies_nothing.ensures
