use Rattle.std.proofs.Common.{take}
use Rattle.std.specs.Prelude.{◌&&◌}
use Rattle.wl_scene.specs.Repaint.{AreTogether, is_new, marks, tree_of}
use Rattle.wl_scene.proofs.MarkedTrees.{AreMarked}
use Rattle.wl_scene.proofs.repaint_trees.mark_new.Given as goal

abbrev pub invariant-loop-window : goal.invariant-loop-window
invariant-loop-window g l =
    AreMarked (AreTogether l.was × AreTogether l.is) (λ root x y. is_new root l.was && marks (tree_of root l.was) (tree_of root l.is) l.changes x y)
    (take l.window-index l.is) l.last l.fn.damage l.damage
