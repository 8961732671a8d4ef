use Rattle.std.proofs.Common.{take}
use Rattle.wl_scene.specs.Repaint.{window_has}
use Rattle.wl_scene.proofs.Marked.{IsMarked}
use Rattle.wl_scene.proofs.repaint.mark_windows.Given as goal

abbrev pub invariant-loop-window : goal.invariant-loop-window
invariant-loop-window g l = IsMarked window_has (take l.window-index l.windows) l.fn.damage l.damage
