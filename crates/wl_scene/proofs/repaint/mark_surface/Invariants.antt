use Rattle.std.proofs.Common.{take}
use Rattle.wl_scene.specs.Repaint.{is_struck_by}
use Rattle.wl_scene.proofs.Marked.{IsMarked}
use Rattle.wl_scene.proofs.repaint.mark_surface.Given as goal

abbrev pub invariant-loop-window : goal.invariant-loop-window
invariant-loop-window g l = IsMarked (is_struck_by l.change) (take l.window-index l.windows) l.fn.damage l.damage
