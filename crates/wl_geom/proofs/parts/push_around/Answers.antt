use Rattle.std.proofs.Common.{◌≡◌, ℤ, not, ◌&&◌, ◌+◌, ◌∙◌, ap}
use Rattle.std.proofs.lemmas.Result.{on_ok_weaker}
use Rattle.wl_geom.specs.Rect.{in_rect, count_at, bit}
use Rattle.wl_geom.proofs.Counts.{bit-apart}
use Rattle.wl_geom.proofs.parts.push_around.Goals as goal

pub returns-then-misses-clause-points : goal.returns-then-misses-clause-points
returns-then-misses-clause-points g c =
    let hole = c.args.hole.now in
    let rect = c.args.rect.now in
    let old = c.args.parts.now.items in
    on_ok_weaker {Q = (x y : ℤ) → count_at x y c.push_part.new.parts.items ≡ count_at x y old + bit (in_rect x y rect && not (in_rect x y hole))} c.push_part.result
    (λ h x y. h x y ∙ ap (λ n. count_at x y old + n) (bit-apart (in_rect x y rect) (in_rect x y hole) (c.misses.ensures.apart c.if-misses.true x y))) c.push_part.ensures.points

pub returns-clause-points : goal.returns-clause-points
returns-clause-points g c =
    let hole = c.args.hole.now in
    let rect = c.args.rect.now in
    let old = c.args.parts.now.items in
    on_ok_weaker {Q = (x y : ℤ) → count_at x y c.push_parts.new.parts.items ≡ count_at x y old + bit (in_rect x y rect && not (in_rect x y hole))} c.push_parts.result
    (λ h x y. h x y ∙ ap (λ n. count_at x y old + n) (c.around.ensures.points x y)) c.push_parts.ensures.points
