use Rattle.std.proofs.Common.{arith}
use Rattle.std.specs.Prelude.{◌&&◌}
use Rattle.wl_scene.specs.Repaint.{AreTogether, is_new, marks, tree_of}
use Rattle.wl_scene.proofs.MarkedTrees.{marked-next, passed-over, same-last}
use Rattle.wl_scene.proofs.repaint_trees.mark_new.Goals as goal
use Rattle.wl_scene.proofs.repaint_trees.mark_new.Goals.{then-ne, else-ne}

pub loop-window-preserved : goal.loop-window-preserved
loop-window-preserved g c =
    elim c.if-ne.branch [
      | then-ne w ↦
          rw (w.damage-is, w.last-is)
          (marked-next (AreTogether c.args.was.now × AreTogether c.args.is.now)
          (λ root x y. is_new root c.args.was.now && marks (tree_of root c.args.was.now) (tree_of root c.args.is.now) c.args.changes.now x y) c.args.is.now c.loop-window.window-index _
          c.args.damage.now (omega arith) c.loop-window.last c.loop-window.damage w.mark_new_root.new.damage c.loop-window.invariant
          (λ t x y wide high. w.mark_new_root.ensures.points t.0 t.1 x y wide high) w.mark_new_root.ensures.sides)
      | else-ne w ↦
          rw (w.damage-is, w.last-is)
          (passed-over (AreTogether c.args.was.now × AreTogether c.args.is.now)
          (λ root x y. is_new root c.args.was.now && marks (tree_of root c.args.was.now) (tree_of root c.args.is.now) c.args.changes.now x y) c.args.is.now c.loop-window.window-index _
          c.args.damage.now (omega arith) c.loop-window.last c.loop-window.damage c.loop-window.invariant
          (same-last c.ne.result c.loop-window.last _ c.ne.ensures w.if-ne.false))
    ]
