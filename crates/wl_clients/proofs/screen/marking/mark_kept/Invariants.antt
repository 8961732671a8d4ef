use Rattle.std.proofs.Common.{take}
use Rattle.wl_scene.specs.Repaint.{window_has}
use Rattle.wl_scene.proofs.Marked.{IsMarked}
use Rattle.wl_clients.proofs.screen.marking.mark_kept.Given as goal

abbrev pub invariant-loop-stacked : goal.invariant-loop-stacked
invariant-loop-stacked g l = IsMarked (λ x y s. window_has x y s.window) (take l.stacked-index l.windows) l.fn.damage l.damage
