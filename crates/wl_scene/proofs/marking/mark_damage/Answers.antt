use Rattle.std.proofs.Common.{ap, refl, sym, subst, pos, arith, true, false, ◌≡◌, ◌<◌, ◌∙◌, ◌&&◌, ◌||◌, ◌-ℤ◌, Bool, List}
use Rattle.std.proofs.lemmas.List.{take_all}
use Rattle.std.specs.List.{list_any}
use Rattle.wl_geom.specs.Rect.{in_rect}
use Rattle.wl_geom.specs.declared.rect.Rect.{Rect}
use Rattle.wl_paint.specs.Damage.{has}
use Rattle.wl_scene.specs.Marking.{AddsPoints}
use Rattle.wl_scene.specs.Repaint.{window_has}
use Rattle.wl_scene.proofs.Spans.{damaged-few, damaged-many, partly-more}
use Rattle.wl_scene.proofs.marking.mark_damage.Goals as goal

pub loop-rect-preserved : goal.loop-rect-preserved
loop-rect-preserved g c =
    partly-more c.args.window c.args.rects.now c.loop-rect.rect-index _ c.part.result c.args.damage.now c.loop-rect.damage c.add-in-loop-rect.new.self (omega arith) c.loop-rect.invariant
    c.add-in-loop-rect.ensures.points c.part.ensures (record { width = c.add-in-loop-rect.ensures.width; height = c.add-in-loop-rect.ensures.height }) c.add-in-loop-rect.ensures.wide
    c.add-in-loop-rect.ensures.high

pub returns-clause-sides : goal.returns-clause-sides
returns-clause-sides g c = c.loop-rect.invariant.sides

pub returns-then-rects-gt-MAX_RECTS-clause-sides : goal.returns-then-rects-gt-MAX_RECTS-clause-sides
returns-then-rects-gt-MAX_RECTS-clause-sides g c = record { width = c.add.ensures.width; height = c.add.ensures.height }

pub returns-clause-points : goal.returns-clause-points
returns-clause-points g c = λ x y wide high.
    let whole = subst (λ (rects : List Rect). AddsPoints (λ x y. window_has x y c.args.window && list_any (in_rect (x -ℤ c.args.window.x) (y -ℤ c.args.window.y)) rects) c.args.damage.now
    c.loop-rect.damage)
    (take_all c.loop-rect.rect-index c.args.rects.now c.loop-rect-test.false) c.loop-rect.invariant.points in
    whole x y wide high ∙ ap (λ (b : Bool). has c.args.damage.now x y || b) (sym (damaged-few c.args.rects.now c.args.window (pos x) (pos y) c.if-rects-gt-MAX_RECTS.false))

with-true : (b : Bool) → b ≡ (b && true)
with-true true = refl
with-true false = refl

pub returns-then-rects-gt-MAX_RECTS-clause-points : goal.returns-then-rects-gt-MAX_RECTS-clause-points
returns-then-rects-gt-MAX_RECTS-clause-points g c = λ x y wide high.
    let near : x < 4096 = omega (arith, wide, c.add.ensures.width, c.add.ensures.wide) in
    let upper : y < 4096 = omega (arith, high, c.add.ensures.height, c.add.ensures.high) in
    c.add.ensures.points x y wide high
    ∙ ap (λ (b : Bool). has c.args.damage.now x y || b) (c.rect.ensures x y near upper
    ∙ (with-true (window_has (pos x) (pos y) c.args.window) ∙ sym (damaged-many c.args.rects.now c.args.window (pos x) (pos y) c.if-rects-gt-MAX_RECTS.true)))
