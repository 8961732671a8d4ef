use Rattle.std.proofs.Common.{◌≡◌, ◌+◌, ℤ, take}
use Rattle.std.specs.Prelude.{All}
use Rattle.wl_geom.specs.Rect.{count_at}
use Rattle.wl_geom.specs.Region.{EndsInRange}
use Rattle.wl_geom.proofs.parts.push_parts.Given as goal

abbrev pub invariant-loop-part : goal.invariant-loop-part
invariant-loop-part g l = record {
  points : (x y : ℤ) → count_at x y l.parts.items ≡ count_at x y l.initial.parts.items + count_at x y (take l.part-index l.more);
  ends : All EndsInRange l.initial.parts.items → All EndsInRange l.more → All EndsInRange l.parts.items;
}
