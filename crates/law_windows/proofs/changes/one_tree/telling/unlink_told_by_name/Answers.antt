use Rattle.law_windows.proofs.OneTree.Named.{unlink-told-by-name}
use Rattle.law_windows.proofs.changes.one_tree.telling.unlink_told_by_name.Goals as goal

pub returns : goal.returns
returns g c = unlink-told-by-name _ c.reads_surfaces.ensures c.finds_links.ensures c.unlinks.ensures c.unlink_tells_applied.ensures
