use Rattle.std.proofs.Common.{ap, pos, sym, ◌∙◌}
use Rattle.std.specs.Prelude.{◌&&◌, ◌||◌}
use Rattle.wl_paint.specs.Damage.{has}
use Rattle.wl_scene.specs.Repaint.{marks, tree_of}
use Rattle.wl_scene.proofs.MarkedTrees.{empty-new, or-none}
use Rattle.wl_scene.proofs.repaint_trees.mark_new_root.Goals as goal

pub returns-then-is_empty-clause-points : goal.returns-then-is_empty-clause-points
returns-then-is_empty-clause-points g c was is x y wide high =
    let empty = empty-new c.args.root c.args.was.now c.tree_in.result.now c.is_empty.result (c.tree_in.ensures was) c.is_empty.ensures in
    c.mark_root.ensures.points was is x y wide high
    ∙ ap (λ b. has c.args.damage.now x y || (b && marks (tree_of c.args.root c.args.was.now) (tree_of c.args.root c.args.is.now) c.args.changes.now (pos x) (pos y)))
    (sym c.if-is_empty.true ∙ empty)

pub returns-else-is_empty-clause-points : goal.returns-else-is_empty-clause-points
returns-else-is_empty-clause-points g c was is x y wide high =
    let empty = empty-new c.args.root c.args.was.now c.tree_in.result.now c.is_empty.result (c.tree_in.ensures was) c.is_empty.ensures in
    or-none (has c.args.damage.now x y)
    ∙ ap (λ b. has c.args.damage.now x y || (b && marks (tree_of c.args.root c.args.was.now) (tree_of c.args.root c.args.is.now) c.args.changes.now (pos x) (pos y)))
    (sym c.if-is_empty.false ∙ empty)
