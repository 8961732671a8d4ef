-- Colours laid over others, and what isn't seen.
use Rattle.std.proofs.Common.{◌≡◌, ℕ, zero, suc, ◌+◌, ◌*◌, ◌-◌, ◌<◌, ◌≤◌, [], ◌∷◌, Bool, true, false, cond, refl, ap, ◌∙◌, arith}
use Rattle.std.specs.Prelude.{min, nat_le, slice_index}
use Rattle.std.proofs.Math.Nat.{le-mul_of_pos_right}
use Rattle.std.proofs.lemmas.Bool.Decides.{nat_tests}
use Rattle.wl_store.specs.declared.color.Argb.{Argb}
use Rattle.wl_store.specs.declared.place.Layout.{Layout}
use Rattle.wl_store.specs.Picture.{color_at, transparent}
use Rattle.wl_blend.specs.Blend.{blended, div255}
use Rattle.wl_blend.specs.declared.color.Rgb.{Rgb}
use Rattle.wl_clients.specs.Painting.{IsColor}

-- nothing is seen
abbrev pub no_color : Argb
no_color = record { a = 0; r = 0; g = 0; b = 0 }

channel-kept : (n : ℕ) → n ≤ 255 → min 255 (0 + div255 (n * (255 - 0))) ≡ n
channel-kept n small = omega (arith, small)

-- what isn't seen leaves what is below it
clear-blended : (under : Rgb) → IsColor under → blended under no_color ≡ under
clear-blended under is = rw (channel-kept under.r is.r, channel-kept under.g is.g, channel-kept under.b is.b) refl

channel-small : (n : ℕ) → min 255 n ≤ 255
channel-small n = omega arith

blended-color : (under : Rgb) (over : Argb) → IsColor (blended under over)
blended-color under over = record { r = channel-small _; g = channel-small _; b = channel-small _ }

zeros : (n : ℕ) → slice_index (0 ∷ 0 ∷ 0 ∷ 0 ∷ []) n ≡ 0
zeros zero = refl
zeros (suc zero) = refl
zeros (suc (suc zero)) = refl
zeros (suc (suc (suc zero))) = refl
zeros (suc (suc (suc (suc n)))) = refl

pub transparent-color : (i j : ℕ) → color_at transparent i j ≡ no_color
transparent-color i j = simp zeros

-- what isn't seen, wherever it is
pub clear-over : (inside : Bool) (under : Rgb) (c : Argb) → c ≡ no_color → IsColor under → cond inside (blended under c) under ≡ under
clear-over true under c e is = ap (blended under) e ∙ clear-blended under is
clear-over false under c e is = refl

pub color-over : (inside : Bool) (under : Rgb) (c : Argb) → IsColor under → IsColor (cond inside (blended under c) under)
color-over true under c is = blended-color under c
color-over false under c is = is

-- a buffer has bytes
pub has-bytes : (l : Layout) → nat_le (l.offset + l.stride * l.h) 0 ≡ false
has-bytes l =
    let wide : 0 < l.stride = omega (arith, l.wide_rows, l.some_columns) in
    let more : l.stride ≤ l.stride * l.h = le-mul_of_pos_right l.stride l.some_rows in
    grind (arith, nat_tests, wide, more)
