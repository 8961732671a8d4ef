use Rattle.std.proofs.Common.{pos, arith, sym, ◌∙◌}
use Rattle.std.proofs.lemmas.Bool.{eqb-true}
use Rattle.std.proofs.lemmas.List.{nil_from_length}
use Rattle.std.specs.Prelude.{vec_len}
use Rattle.wl_paint.specs.Damage.{has}
use Rattle.wl_scene.specs.Repaint.{is_struck_by}
use Rattle.wl_scene.proofs.Marked.{marked-more, nothing-more, undamaged}
use Rattle.wl_scene.proofs.repaint.mark_surface.Goals as goal

pub loop-window-preserved : goal.loop-window-preserved
loop-window-preserved g c =
    marked-more (is_struck_by c.args.change.now) c.args.windows.now c.loop-window.window-index _ c.args.damage.now c.loop-window.damage c.mark_struck.new.damage (omega arith)
    c.loop-window.invariant c.mark_struck.ensures.points c.mark_struck.ensures.sides

pub returns-then-is_empty-clause-points : goal.returns-then-is_empty-clause-points
returns-then-is_empty-clause-points g c x y wide high =
    nothing-more (has c.args.damage.now x y) _
    (undamaged c.args.change.now c.args.windows.now (pos x) (pos y)
    (nil_from_length c.args.change.now.rects.items (sym c.args.change.now.rects.ok.0 ∙ eqb-true (vec_len c.args.change.now.rects) 0 (sym c.is_empty.ensures ∙ c.if-is_empty.true))))
