use Rattle.law_windows.proofs.OneTree.Named.{end-told-by-name}
use Rattle.law_windows.proofs.changes.one_tree.telling.end_told_by_name.Goals as goal

pub returns : goal.returns
returns g c = end-told-by-name _ c.reads_surfaces.ensures c.keeps_places.ensures c.destroys_surface.ensures c.end_tells_applied.ensures
