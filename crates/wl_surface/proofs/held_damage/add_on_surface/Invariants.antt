use Rattle.std.proofs.Common.{◌≡◌, ◌+◌, ◌<◌, ℕ, take}
use Rattle.std.specs.Prelude.{pos, ◌||◌, vec_capacity, vec_len}
use Rattle.std.specs.List.{list_any}
use Rattle.wl_geom.specs.Rect.{in_rect}
use Rattle.wl_store.specs.Transform.{buffer_point}
use Rattle.wl_surface.specs.State.{meets}
use Rattle.wl_surface.proofs.held_damage.add_on_surface.Given as goal

abbrev pub invariant-loop-rect : goal.invariant-loop-rect
invariant-loop-rect g l = record {
  len : vec_len l.rects ≡ vec_len l.initial.rects + l.rect-index;
  capacity : vec_capacity l.rects ≡ vec_capacity l.initial.rects;
  points : (x y : ℕ) → x < l.shape.w → y < l.shape.h → list_any (in_rect (pos x) (pos y)) l.rects.items
      ≡ (list_any (in_rect (pos x) (pos y)) l.initial.rects.items || list_any (meets l.shape.scale.number (buffer_point l.shape.transform l.shape.w l.shape.h x y)) (take l.rect-index l.buffer_rects));
}
