use Rattle.law_windows.proofs.OneTree.Named.{desync-told-by-name}
use Rattle.law_windows.proofs.changes.one_tree.telling.desync_told_by_name.Goals as goal

pub returns : goal.returns
returns g c = desync-told-by-name _ c.reads_surfaces.ensures c.finds_links.ensures c.desynchronises.ensures c.desync_tells_applied.ensures
