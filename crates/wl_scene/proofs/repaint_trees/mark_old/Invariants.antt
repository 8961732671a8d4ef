use Rattle.std.proofs.Common.{take}
use Rattle.wl_scene.specs.Repaint.{AreTogether, marks, tree_of}
use Rattle.wl_scene.proofs.MarkedTrees.{AreMarked}
use Rattle.wl_scene.proofs.repaint_trees.mark_old.Given as goal

abbrev pub invariant-loop-window : goal.invariant-loop-window
invariant-loop-window g l =
    AreMarked (AreTogether l.was × AreTogether l.is) (λ root x y. marks (tree_of root l.was) (tree_of root l.is) l.changes x y)
    (take l.window-index l.was) l.last l.fn.damage l.damage
