-- Points of buffers that are turned and scaled, and where their pixels lie in the bytes.
use Rattle.std.proofs.Common.{◌≡◌, ℕ, ◌+◌, ◌-◌, ◌*◌, ◌<◌, ◌≤◌, Bool, true, false, cond, List, length, refl, sym, ap, subst, ◌∙◌, arith}
use Rattle.std.specs.Prelude.{◌/◌, slice_index}
use Rattle.std.proofs.Math.Nat.{add-mul, mul_assoc, mul_left_comm}
use Rattle.std.proofs.lemmas.Nat.{div-add-mod', row_fits, row_fits_turned}
use Rattle.wl_store.specs.declared.place.Layout.{Layout}
use Rattle.wl_store.specs.declared.transform.Course.{Course}
use Rattle.wl_store.specs.declared.transform.Course.TheVariants.{Right, Left, Down, Up}
use Rattle.wl_store.specs.declared.transform.Transform.{Transform}
use Rattle.wl_store.specs.declared.transform.Transform.TheVariants.{Normal, Rotated90, Rotated180, Rotated270, Flipped, Flipped90}
use Rattle.wl_store.specs.declared.transform.Transform.TheVariants.{Flipped180, Flipped270}
use Rattle.wl_store.specs.Layout.{FitsIn, place_of}
use Rattle.wl_store.specs.Picture.{ArePoints, Shown, point_shown, surface_height, surface_width}
use Rattle.wl_store.specs.Transform.{IsAlong, buffer_point, is_turned, scaled}

-- a coordinate of the surface, times the scale, lies within the buffer
pub scaled-below : (i n s : ℕ) → 1 ≤ s → i < n / s → i * s < n
scaled-below i n s some h =
    let le : s ≤ s = omega arith in
    omega (arith, row_fits i s (n / s) s h le, div-add-mod' n s)

-- Two exchanges change nothing.
pub turned-back : (turned : Bool) (m n : ℕ) → cond turned (cond turned m n) (cond turned n m) ≡ m
turned-back true m n = refl
turned-back false m n = refl

-- a point of the surface is turned into one of the buffer
pub turned-within : (t : Transform) (w h i j : ℕ) → i < w → j < h
    → ((buffer_point t w h i j).0 < cond (is_turned t) h w) × ((buffer_point t w h i j).1 < cond (is_turned t) w h)
turned-within Normal w h i j c r = (c, r)
turned-within Rotated90 w h i j c r = (r, omega arith)
turned-within Rotated180 w h i j c r = (omega arith, omega arith)
turned-within Rotated270 w h i j c r = (omega arith, c)
turned-within Flipped w h i j c r = (omega arith, r)
turned-within Flipped90 w h i j c r = (r, c)
turned-within Flipped180 w h i j c r = (c, omega arith)
turned-within Flipped270 w h i j c r = (omega arith, omega arith)

-- the same point, scaled
pub point-within : (p : Shown) (i j : ℕ) → 1 ≤ p.scale → i < surface_width p → j < surface_height p
    → ((point_shown p i j).0 < p.layout.w) × ((point_shown p i j).1 < p.layout.h)
point-within p i j some c r =
    let turned = is_turned p.transform in
    let w = p.layout.w / p.scale in
    let h = p.layout.h / p.scale in
    let at = buffer_point p.transform (surface_width p) (surface_height p) i j in
    let b = turned-within p.transform (surface_width p) (surface_height p) i j c r in (
      scaled-below at.0 p.layout.w p.scale some (subst (λ (n : ℕ). at.0 < n) (turned-back turned w h) b.0),
      scaled-below at.1 p.layout.h p.scale some (subst (λ (n : ℕ). at.1 < n) (turned-back turned h w) b.1),
    )

-- a coordinate is turned by what is kept of the picture, and lies within the buffer
pub column-within : (p : Shown) (t : Transform) (s x : ℕ) (sides : ℕ × ℕ) → t ≡ p.transform → s ≡ p.scale → 1 ≤ s
    → sides ≡ (surface_width p, surface_height p) → x < cond (is_turned t) sides.1 sides.0 → x * s < p.layout.w
column-within p t s x sides turned scale some is h =
    let w = p.layout.w / p.scale in
    let there : x < cond (is_turned p.transform) (surface_height p) (surface_width p) = rw (turned, is) at h in
    rw scale (scaled-below x p.layout.w p.scale (rw scale at some) (subst (λ (n : ℕ). x < n) (turned-back (is_turned p.transform) w (p.layout.h / p.scale)) there))

pub row-within : (p : Shown) (t : Transform) (s y : ℕ) (sides : ℕ × ℕ) → t ≡ p.transform → s ≡ p.scale → 1 ≤ s
    → sides ≡ (surface_width p, surface_height p) → y < cond (is_turned t) sides.0 sides.1 → y * s < p.layout.h
row-within p t s y sides turned scale some is h =
    let h' = p.layout.h / p.scale in
    let there : y < cond (is_turned p.transform) (surface_width p) (surface_height p) = rw (turned, is) at h in
    rw scale (scaled-below y p.layout.h p.scale (rw scale at some) (subst (λ (n : ℕ). y < n) (turned-back (is_turned p.transform) h' (p.layout.w / p.scale)) there))

-- a pixel of a buffer lies within the bytes
pub pixel-within : (l : Layout) (size x y : ℕ) → FitsIn size l → x < l.w → y < l.h → place_of l (x, y) + 4 ≤ size
pixel-within l size x y fits c r =
    let le : l.stride ≤ l.stride = omega arith in
    omega (arith, row_fits_turned y l.stride l.stride l.h r le, l.wide_rows)

-- points that lie on a course, times the scale
along-scaled : (c : Course) (k s : ℕ) (from to : ℕ × ℕ) → IsAlong c k from to → IsAlong c (k * s) (scaled s from) (scaled s to)
along-scaled Right k s from to e = (sym (add-mul from.0 k s) ∙ ap (λ (u : ℕ). u * s) e.0, ap (λ (u : ℕ). u * s) e.1)
along-scaled Left k s from to e = (sym (add-mul to.0 k s) ∙ ap (λ (u : ℕ). u * s) e.0, ap (λ (u : ℕ). u * s) e.1)
along-scaled Down k s from to e = (ap (λ (u : ℕ). u * s) e.0, sym (add-mul from.1 k s) ∙ ap (λ (u : ℕ). u * s) e.1)
along-scaled Up k s from to e = (ap (λ (u : ℕ). u * s) e.0, sym (add-mul to.1 k s) ∙ ap (λ (u : ℕ). u * s) e.1)

-- how far apart in the bytes two pixels are that lie side by side on a course
abbrev pub step_of : Course → Layout → ℕ → ℕ
step_of Right l s = 4 * s
step_of Left l s = 4 * s
step_of Down l s = s * l.stride
step_of Up l s = s * l.stride

-- a pixel begins k steps from the first on a course
abbrev pub IsAt : Course → ℕ → ℕ → ℕ → Type 0
IsAt Right steps first at = first + steps ≡ at
IsAt Left steps first at = at + steps ≡ first
IsAt Down steps first at = first + steps ≡ at
IsAt Up steps first at = at + steps ≡ first

place-along : (c : Course) (l : Layout) (k s : ℕ) (from to : ℕ × ℕ) → IsAlong c (k * s) from to
    → IsAt c (k * step_of c l s) (place_of l from) (place_of l to)
place-along Right l k s from to e = omega (arith, mul_left_comm k 4 s, e.0, ap (λ (u : ℕ). u * l.stride) e.1)
place-along Left l k s from to e = omega (arith, mul_left_comm k 4 s, e.0, ap (λ (u : ℕ). u * l.stride) e.1)
place-along Down l k s from to e =
    omega (arith, mul_assoc k s l.stride, e.0, add-mul from.1 (k * s) l.stride, ap (λ (u : ℕ). u * l.stride) e.1)
place-along Up l k s from to e =
    omega (arith, mul_assoc k s l.stride, e.0, add-mul to.1 (k * s) l.stride, ap (λ (u : ℕ). u * l.stride) e.1)

-- where the k-th point from (i, j) to the right lies
pub point-along : (c : Course) (p : Shown) (i j k : ℕ)
    → IsAlong c k (buffer_point p.transform (surface_width p) (surface_height p) i j) (buffer_point p.transform (surface_width p) (surface_height p) (i + k) j)
    → IsAt c (k * step_of c p.layout p.scale) (place_of p.layout (point_shown p i j)) (place_of p.layout (point_shown p (i + k) j))
point-along c p i j k e =
    place-along c p.layout k p.scale (point_shown p i j) (point_shown p (i + k) j) (along-scaled c k p.scale _ _ e)

-- a run of pixels of the buffer has the points' colours
pub points-read : (p : Shown) (i j count : ℕ) (run : List ℕ) → length run ≡ 4 * count
    → ((k b : ℕ) → k < count → b < 4 → slice_index run (4 * k + b) ≡ slice_index p.bytes (place_of p.layout (point_shown p (i + k) j) + b))
    → ArePoints p i j count run p.layout.format
points-read p i j count run sized same = record {
  as_many = sized;
  colors = λ k h.
      (let at = place_of p.layout (point_shown p (i + k) j) in
      let zero-run : 4 * k + 0 ≡ 4 * k = omega arith in
      let zero-at : at + 0 ≡ at = omega arith in
      let first : slice_index run (4 * k) ≡ slice_index p.bytes at = rw (← zero-run, ← zero-at) (same k 0 h (omega arith)) in
      rw (first, same k 1 h (omega arith), same k 2 h (omega arith), same k 3 h (omega arith)) refl);
}

-- a run of pixels that begin k steps on a course from the first
pub filled : (c : Course) (p : Shown) (t : Transform) (l : Layout) (i j k first : ℕ) (point : ℕ × ℕ) → t ≡ p.transform → l ≡ p.layout
    → ((w h i j k : ℕ) → i + k < w → IsAlong c k (buffer_point t w h i j) (buffer_point t w h (i + k) j)) → i + k < surface_width p
    → point ≡ point_shown p i j → first ≡ place_of l point
    → IsAt c (k * step_of c p.layout p.scale) first (place_of p.layout (point_shown p (i + k) j))
filled c p t l i j k first point turned lies goes h is begins =
    let along = subst (λ (u : Transform). IsAlong c k (buffer_point u (surface_width p) (surface_height p) i j) (buffer_point u (surface_width p) (surface_height p) (i + k) j))
    turned (goes (surface_width p) (surface_height p) i j k h) in
    let from : first ≡ place_of p.layout (point_shown p i j)
    = begins ∙ ap (λ (u : ℕ × ℕ). place_of l u) is ∙ ap (λ (u : Layout). place_of u (point_shown p i j)) lies in
    subst (λ (f : ℕ). IsAt c (k * step_of c p.layout p.scale) f (place_of p.layout (point_shown p (i + k) j))) (sym from) (point-along c p i j k along)

-- each of them lies within the bytes
pub filled-within : (p : Shown) (i j k : ℕ) → FitsIn (length p.bytes) p.layout → 1 ≤ p.scale → i + k < surface_width p → j < surface_height p
    → place_of p.layout (point_shown p (i + k) j) + 4 ≤ length p.bytes
filled-within p i j k fits some c r =
    let within = point-within p (i + k) j some c r in
    pixel-within p.layout (length p.bytes) (point_shown p (i + k) j).0 (point_shown p (i + k) j).1 fits within.0 within.1
