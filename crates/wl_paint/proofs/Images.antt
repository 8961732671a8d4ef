-- Images of one colour.
use Rattle.std.proofs.Common.{◌≡◌, ℕ, true, zero, suc, ◌+◌, ◌*◌, ◌<◌, List, [], ◌∷◌, ◌++◌, length, get_or, refl, ap, ◌∙◌, arith, length-append, inl, inr}
use Rattle.std.proofs.lemmas.Bool.{cases_lt, and_parts, leb-true}
use Rattle.std.proofs.lemmas.List.{get_or_append_left, get_or-append-add, get_or_at}
use Rattle.wl_blend.specs.declared.color.Rgb.{Rgb}
use Rattle.wl_blend.specs.Blend.{color_of}
use Rattle.wl_paint.specs.Frame.{IsImage, is_side, pixel_bytes, filled}

pub length-filled : (n : ℕ) (color : Rgb) → length (filled n color) ≡ 4 * n
length-filled zero color = refl
length-filled (suc n) color = length-append (filled n color) (pixel_bytes color) ∙ omega (arith, length-filled n color)

-- a colour among the first pixels is that of the front
color_of-front : (front pixels : List ℕ) (k : ℕ) → 4 * k + 3 < length front → color_of (front ++ pixels) k ≡ color_of front k
color_of-front front pixels k h =
    let red : 4 * k + 2 < length front = omega arith in
    let green : 4 * k + 1 < length front = omega arith in
    let blue : 4 * k < length front = omega arith in
    rw (get_or_append_left front pixels 0 (4 * k + 2) red, get_or_append_left front pixels 0 (4 * k + 1) green, get_or_append_left front pixels 0 (4 * k) blue)

-- the colour after whole pixels is that of the first pixel that follows
color_of-next : (front : List ℕ) (color : Rgb) (k : ℕ) → length front ≡ 4 * k → color_of (front ++ pixel_bytes color) k ≡ color
color_of-next front color k h =
    rw (get_or_at front color.b (color.g ∷ color.r ∷ 255 ∷ []) 0 (4 * k) h, ← h, get_or-append-add front (pixel_bytes color) 2 0, get_or-append-add front (pixel_bytes color) 1 0) refl

pub color_of-filled : (n : ℕ) (color : Rgb) (k : ℕ) → k < n → color_of (filled n color) k ≡ color
color_of-filled zero color k h = absurd (omega arith)
color_of-filled (suc n) color k h =
    elim (cases_lt k n) [
      | inl below ↦ (color_of-front (filled n color) (pixel_bytes color) k (omega (arith, length-filled n color)) ∙ color_of-filled n color k below)
      | inr last ↦ (color_of-next (filled n color) color k (omega (arith, length-filled n color)))
    ]

-- the fourth byte of each pixel
pub fourth-filled : (n : ℕ) (color : Rgb) (k : ℕ) → k < n → get_or (filled n color) (4 * k + 3) 0 ≡ 255
fourth-filled zero color k h = absurd (omega arith)
fourth-filled (suc n) color k h =
    elim (cases_lt k n) [
      | inl below ↦ (get_or_append_left (filled n color) (pixel_bytes color) 0 (4 * k + 3) (omega (arith, length-filled n color)) ∙ fourth-filled n color k below)
      | inr last ↦ (
          let at : 4 * k + 3 ≡ length (filled n color) + 3 = omega (arith, length-filled n color) in
          rw (at, get_or-append-add (filled n color) (pixel_bytes color) 3 0) refl)
    ]

row_end : (x y width height : ℕ) → x < width → y < height → y * width + x < width * height
row_end x y width height h l = grind arith

-- an image of one colour has it everywhere
pub color_at-filled : (width height : ℕ) (pixels : List ℕ) (color : Rgb) → pixels ≡ filled (width * height) color
    → (x y : ℕ) → x < width → y < height → color_of pixels (y * width + x) ≡ color
color_at-filled width height pixels color is x y h l =
    rw is (color_of-filled (width * height) color (y * width + x) (row_end x y width height h l))

pub IsImage-filled : (width height : ℕ) (pixels : List ℕ) (color : Rgb) → is_side width ≡ true → is_side height ≡ true → pixels ≡ filled (width * height) color
    → IsImage (record { width = width; height = height; background = color; pixels = pixels })
IsImage-filled width height pixels color wide high is =
    let w = and_parts _ _ wide in
    let h = and_parts _ _ high in
    record {
      wide = leb-true width 4096 w.1;
      high = leb-true height 4096 h.1;
      some_width = leb-true 1 width w.0;
      some_height = leb-true 1 height h.0;
      sized = ap length is ∙ length-filled (width * height) color;
      fourths = λ k l. ap (λ (t : List ℕ). get_or t (4 * k + 3) 0) is ∙ fourth-filled (width * height) color k l;
    }
