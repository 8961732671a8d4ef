-- The points that rectangles contain.
use Rattle.std.specs.Prelude.{ℕ, ◌-◌, ◌^◌, ℤ, pos, negsuc, ◌+ℤ◌, int_le, int_lt, Bool, ◌&&◌, List, count_by, cond}
use Rattle.wl_geom.specs.declared.rect.Rect.{Rect}

-- at is one of the len numbers from start on
abbrev pub in_span : ℤ → ℤ → ℤ → Bool
in_span start len at = int_le start at && int_lt at (start +ℤ len)

-- the rectangle contains the point (x, y)
abbrev pub in_rect : ℤ → ℤ → Rect → Bool
in_rect x y r = in_span r.x r.w x && in_span r.y r.h y

-- the number is a coordinate: it fits 32 bits
abbrev pub is_coordinate : ℤ → Bool
is_coordinate at = int_le (negsuc (2 ^ 31 - 1)) at && int_lt at (pos (2 ^ 31))

-- both numbers are coordinates
abbrev pub is_point : ℤ → ℤ → Bool
is_point x y = is_coordinate x && is_coordinate y

-- 1 or 0
abbrev pub bit : Bool → ℕ
bit b = cond b 1 0

-- how many of the rectangles contain the point
abbrev pub count_at : ℤ → ℤ → List Rect → ℕ
count_at x y rects = count_by (in_rect x y) rects
