use Rattle.std.proofs.Common.{ℕ, Bool, ap, pos, ◌∙◌}
use Rattle.std.specs.Prelude.{◌&&◌, ◌||◌}
use Rattle.std.specs.List.{list_any}
use Rattle.std.proofs.Math.Bool.{or_assoc}
use Rattle.wl_paint.specs.Damage.{has}
use Rattle.wl_scene.specs.Repaint.{is_new, marks, tree_of}
use Rattle.wl_scene.proofs.MarkedTrees.{old-and-new}
use Rattle.wl_scene.proofs.repaint_trees.mark_trees.Goals as goal

pub returns-clause-points : goal.returns-clause-points
returns-clause-points g c was is x y wide high =
    let marked : ℕ → Bool = λ root. marks (tree_of root c.args.was.now) (tree_of root c.args.is.now) c.args.changes.now (pos x) (pos y) in
    c.mark_new.ensures.points was is x y (rw c.mark_old.ensures.sides.width wide) (rw c.mark_old.ensures.sides.height high)
    ∙ ap (λ b. b || list_any (λ w. is_new w.root c.args.was.now && marked w.root) c.args.is.now) (c.mark_old.ensures.points was is x y wide high)
    ∙ or_assoc (has c.args.damage.now x y) (list_any (λ w. marked w.root) c.args.was.now) (list_any (λ w. is_new w.root c.args.was.now && marked w.root) c.args.is.now)
    ∙ ap (λ b. has c.args.damage.now x y || b) (old-and-new marked c.args.was.now c.args.is.now)
