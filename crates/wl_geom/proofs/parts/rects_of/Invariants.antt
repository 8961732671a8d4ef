use Rattle.std.proofs.Common.{◌≡◌, ℤ, ◌&&◌, take}
use Rattle.std.specs.Prelude.{All}
use Rattle.wl_geom.specs.Edits.{is_held}
use Rattle.wl_geom.specs.Rect.{bit, count_at, is_point}
use Rattle.wl_geom.specs.Region.{EndsInRange}
use Rattle.wl_geom.proofs.parts.rects_of.Given as goal

abbrev pub invariant-loop-edit : goal.invariant-loop-edit
invariant-loop-edit g l = record {
  points : (x y : ℤ) → count_at x y l.rects.items ≡ bit (is_point x y && is_held x y (take l.edit-index l.edits));
  ends : All EndsInRange l.rects.items;
}
