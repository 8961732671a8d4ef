use Rattle.std.proofs.Common.{pos, take, get_or}
use Rattle.wl_geom.specs.declared.rect.Rect.{Rect}
use Rattle.wl_geom.specs.Rect.{in_rect, count_at}
use Rattle.wl_geom.proofs.Counts.{around-more, count_at-more}
use Rattle.wl_geom.proofs.parts.without.Goals as goal

pub loop-rect-preserved : goal.loop-rect-preserved
loop-rect-preserved g c =
    let rects = c.args.rects.now in
    let i = c.loop-rect.rect-index in
    let none : Rect = record { x = pos 0; y = pos 0; w = pos 0; h = pos 0 } in
    record {
      points = λ x y. rw (
        c.in_ok-push_around.ensures.points x y,
        c.loop-rect.invariant.points x y,
        around-more (in_rect x y (get_or rects i none)) (in_rect x y c.args.hole.now) (count_at x y (take i rects)),
        count_at-more x y rects i none c.loop-rect-test.true,
      );
      ends = c.in_ok-push_around.ensures.ends c.loop-rect.invariant.ends;
    }
