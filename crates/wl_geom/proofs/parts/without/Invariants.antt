use Rattle.std.proofs.Common.{◌≡◌, ℤ, take, cond}
use Rattle.std.specs.Prelude.{All}
use Rattle.wl_geom.specs.Rect.{count_at, in_rect}
use Rattle.wl_geom.specs.Region.{EndsInRange}
use Rattle.wl_geom.proofs.parts.without.Given as goal

abbrev pub invariant-loop-rect : goal.invariant-loop-rect
invariant-loop-rect g l = record {
  points : (x y : ℤ) → count_at x y l.parts.items ≡ cond (in_rect x y l.hole) 0 (count_at x y (take l.rect-index l.rects));
  ends : All EndsInRange l.parts.items;
}
