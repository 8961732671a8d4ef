use Rattle.law_windows.proofs.OneTree.Named.{commit-told-by-name}
use Rattle.law_windows.proofs.changes.one_tree.telling.commit_told_by_name.Goals as goal

pub returns : goal.returns
returns g c = commit-told-by-name _ c.reads_surfaces.ensures c.commits_surface.ensures c.commit_tells_applied.ensures
