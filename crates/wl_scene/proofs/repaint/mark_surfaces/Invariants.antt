use Rattle.std.proofs.Common.{take}
use Rattle.wl_scene.specs.Repaint.{is_damaged_by}
use Rattle.wl_scene.proofs.Marked.{IsMarked}
use Rattle.wl_scene.proofs.repaint.mark_surfaces.Given as goal

abbrev pub invariant-loop-change : goal.invariant-loop-change
invariant-loop-change g l = IsMarked (is_damaged_by l.windows) (take l.change-index l.changes) l.fn.damage l.damage
