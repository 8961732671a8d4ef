-- Spans that are cut at a line, and the four parts round a hole.
use Rattle.std.proofs.Common.{◌≡◌, ◌+◌, ◌-◌, ◌^◌, Bool, false, not, ◌&&◌, arith, pos, negsuc, inl, inr}
use Rattle.std.specs.Prelude.{ℤ, ◌⊎◌, ◌+ℤ◌, ◌≤ℤ◌, ◌<ℤ◌, ◌-ℤ◌, int_le, int_lt}
use Rattle.std.proofs.lemmas.Int.{ints}
use Rattle.wl_geom.specs.Rect.{in_span, is_coordinate, bit}

pub in_span-cut_end : (start len line n at : ℤ) → n ≡ line -ℤ start → line ≤ℤ (start +ℤ len) → in_span start n at ≡ (in_span start len at && int_lt at line)
in_span-cut_end start len line n at e h = grind (arith, ints)

pub in_span-cut_start : (start len line from n at : ℤ) → from ≡ line → n ≡ start +ℤ len -ℤ line → start ≤ℤ line → in_span from n at ≡ (in_span start len at && int_le line at)
in_span-cut_start start len line from n at d e h = grind (arith, ints)

pub in_span-none_from : (start len line from at : ℤ) → (start +ℤ len) ≤ℤ line → in_span from (pos 0) at ≡ (in_span start len at && int_le line at)
in_span-none_from start len line from at h = grind (arith, ints)

-- what comes before the line past the last coordinate are the coordinates of the span
pub in_span-clipped : (start len n at : ℤ) → negsuc (2 ^ 31 - 1) ≤ℤ start
    → in_span start n at ≡ (in_span start len at && int_lt at (pos (2 ^ 31))) → in_span start n at ≡ (is_coordinate at && in_span start len at)
in_span-clipped start len n at low e = grind (arith, ints)

-- two spans, each cut to the coordinates
pub both_clipped : (p q a b : Bool) → ((p && a) && (q && b)) ≡ ((p && q) && (a && b))
both_clipped p q a b = grind arith

-- what lies above, left, right and below of a hole, and the hole's part, are all there is
four_parts : (r : Bool) (x y left right top bottom : ℤ) → left ≤ℤ right → top ≤ℤ bottom
    → 0 + bit (r && int_lt y top) + bit (((r && int_le top y) && int_lt y bottom) && int_lt x left) + bit (((r && int_le top y) && int_lt y bottom) && int_le right x) + bit (r && int_le bottom y)
    ≡ bit (r && not ((int_le left x && int_lt x right) && (int_le top y && int_lt y bottom)))
four_parts r x y left right top bottom h v = grind (arith, ints)

-- the same, where each part is named, and each line
pub parts_of_hole : (r a l g b beside under : Bool) (x y top top' bottom bottom' left right hx hw hy hh : ℤ)
    → pos 0 <ℤ hw → pos 0 <ℤ hh
    → top ≡ hy → top' ≡ hy → bottom ≡ hy +ℤ hh → bottom' ≡ hy +ℤ hh → left ≡ hx → right ≡ hx +ℤ hw
    → under ≡ (r && int_le top y) → beside ≡ (under && int_lt y bottom)
    → a ≡ (r && int_lt y top') → l ≡ (beside && int_lt x left) → g ≡ (beside && int_le right x) → b ≡ (r && int_le bottom' y)
    → 0 + bit a + bit l + bit g + bit b
    ≡ bit (r && not ((int_le hx x && int_lt x (hx +ℤ hw)) && (int_le hy y && int_lt y (hy +ℤ hh))))
parts_of_hole r a l g b beside under x y top top' bottom bottom' left right hx hw hy hh w h e1 e2 e3 e4 e5 e6 u v p q s t =
    rw (p, q, s, t, v, u, e1, e2, e3, e4, e5, e6) (four_parts r x y hx (hx +ℤ hw) hy (hy +ℤ hh) (omega (arith, ints)) (omega (arith, ints)))

-- a span that ends before the other starts, or starts after it ends, shares nothing with it
pub in_span-apart : (start len other other_len at : ℤ) → ((other +ℤ other_len) ≤ℤ start) ⊎ ((start +ℤ len) ≤ℤ other) → (in_span start len at && in_span other other_len at) ≡ false
in_span-apart start len other other_len at (inl h) = grind (arith, ints)
in_span-apart start len other other_len at (inr h) = grind (arith, ints)

-- rectangles whose columns are apart, and ones whose rows are
pub apart_in_columns : (a b c d : Bool) → (a && c) ≡ false → ((a && b) && (c && d)) ≡ false
apart_in_columns a b c d e = grind arith

pub apart_in_rows : (a b c d : Bool) → (b && d) ≡ false → ((a && b) && (c && d)) ≡ false
apart_in_rows a b c d e = grind arith
