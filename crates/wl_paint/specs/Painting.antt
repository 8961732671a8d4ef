-- What is seen of a window that is lent, and images of which a part is painted.
use Rattle.std.specs.Prelude.{◌≡◌, ℕ, ◌+◌, ◌-◌, ◌*◌, ◌<◌, ◌≤◌, ◌⊎◌, ℤ, pos, ◌-ℤ◌, unsigned_abs, ◌&&◌, Bool, true, false, List, slice_index, Option, Some}
use Rattle.std.specs.Prelude.{None}
use Rattle.wl_geom.specs.Rect.{in_span}
use Rattle.wl_blend.specs.declared.color.Rgb.{Rgb}
use Rattle.wl_blend.specs.Blend.{color_of}
use Rattle.wl_paint.specs.declared.windows.Painted.{Painted}
use Rattle.wl_paint.specs.declared.span.Span.{Span}
use Rattle.wl_paint.specs.Damage.{is_between}
use Rattle.wl_paint.specs.Window.{Window}

-- the window that is lent
abbrev pub window_of : {A : Type 0} → Painted A → Window
window_of p = record { x = p.x; y = p.y; picture = p.picture; opaque = p.opaque.now }

-- pixel k: its colour, and its fourth byte
abbrev pub pixel_of : List ℕ → ℕ → Rgb × ℕ
pixel_of pixels k = (color_of pixels k, slice_index pixels (4 * k + 3))

-- a pixel of this colour, as a framebuffer has it
abbrev pub opaque : Rgb → Rgb × ℕ
opaque color = (color, 255)

-- the pixel is opaque, and it has the colour where what is promised holds
pub record Shows (promised : Type 0) (color : Rgb) (pixel : Rgb × ℕ) : Type 0 where
  pub colored : promised → pixel.0 ≡ color
  pub fourth : pixel.1 ≡ 255

-- the points that pass the test are painted where they are damaged, and all others are as they were
pub record IsPaintedIn (was now : ℕ → Rgb × ℕ) (promised : ℕ → ℕ → Type 0) (paint : ℕ → ℕ → Rgb) (damaged : ℕ → ℕ → Bool) (width : ℕ) (chosen : ℕ → ℕ
    → Bool) : Type 0 where
  pub painted : (x y : ℕ) → x < width → (chosen x y && damaged x y) ≡ true → Shows (promised x y) (paint x y) (now (y * width + x))
  pub kept : (x y : ℕ) → x < width → (chosen x y && damaged x y) ≡ false → now (y * width + x) ≡ was (y * width + x)

-- the row from base on has, from column `first` up to `end`, the pixels of the stretch where it is damaged, and all others are as they were
pub record IsCopiedTo (was now stretch : ℕ → Rgb × ℕ) (damaged : ℕ → Bool) (base first end : ℕ) : Type 0 where
  pub order : first ≤ end
  pub copied : (x : ℕ) → first ≤ x → x < end → damaged x ≡ true → now (base + x) ≡ stretch (x - first)
  pub kept : (x : ℕ) → first ≤ x → x < end → damaged x ≡ false → now (base + x) ≡ was (base + x)
  pub outside : (k : ℕ) → (k < base + first) ⊎ (base + end ≤ k) → now k ≡ was k

-- the points of these columns and these rows
abbrev pub is_in : Span → Span → ℕ → ℕ → Bool
is_in columns rows x y = is_between columns.first columns.end x && is_between rows.first rows.end y

-- how far the place is from the start, where it is one of the len numbers from there on
abbrev pub OffsetIn : ℤ → ℕ → ℕ → Option ℕ → Type 0
OffsetIn start len place (Some offset) =
    (in_span start (pos len) (pos place) ≡ true) × (offset ≡ unsigned_abs (pos place -ℤ start)) × (offset < len)
OffsetIn start len place None = in_span start (pos len) (pos place) ≡ false
