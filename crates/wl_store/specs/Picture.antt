-- What is seen of a picture: the bytes, the place of the buffer in them, and how a surface shows
-- it, turned and scaled.
use Rattle.std.proofs.lemmas.Bool.{leb-true, ltb-true}
use Rattle.std.specs.Prelude.{◌≡◌, refl, ◌^◌, ℕ, ◌+◌, ◌*◌, ◌/◌, ◌<◌, nat_le, List, [], ◌∷◌, length, cond, Option, Some, None}
use Rattle.wl_store.specs.declared.color.Argb.{Argb}
use Rattle.wl_store.specs.declared.color.Format.{Format}
use Rattle.wl_store.specs.declared.color.Format.TheVariants.{Argb8888}
use Rattle.wl_store.specs.declared.place.Layout.{Layout}
use Rattle.wl_store.specs.declared.transform.Transform.{Transform}
use Rattle.wl_store.specs.declared.transform.Transform.TheVariants.{Normal}
use Rattle.wl_store.specs.Layout.{argb_of, buffer_color}
use Rattle.wl_store.specs.Transform.{is_turned, buffer_point, scaled}

pub record Shown : Type 0 where
  pub bytes : List ℕ
  pub layout : Layout
  pub transform : Transform
  pub scale : ℕ

-- the picture of a buffer with this layout in these bytes, if it ends within them
abbrev pub lent : List ℕ → Layout → Transform → ℕ → Option Shown
lent bytes l transform scale = cond (nat_le (l.offset + l.stride * l.h) (length bytes))
    (Some (record { bytes = bytes; layout = l; transform = transform; scale = scale })) None

-- The width and the height of the surface that shows the picture: the buffer's, divided by the
-- scale and rounded down. An odd transform exchanges them (wayland.xml,
-- wl_surface.set_buffer_scale).
abbrev pub surface_width : Shown → ℕ
surface_width p = cond (is_turned p.transform) (p.layout.h / p.scale) (p.layout.w / p.scale)

abbrev pub surface_height : Shown → ℕ
surface_height p = cond (is_turned p.transform) (p.layout.w / p.scale) (p.layout.h / p.scale)

-- the point of the buffer that the point (i, j) of the surface shows
abbrev pub point_shown : Shown → ℕ → ℕ → ℕ × ℕ
point_shown p i j = scaled p.scale (buffer_point p.transform (surface_width p) (surface_height p) i j)

-- the colour at the point (i, j) of the surface
abbrev pub color_at : Shown → ℕ → ℕ → Argb
color_at p i j = buffer_color p.bytes p.layout (point_shown p i j)

-- The bytes are those of `count` points of the surface from (i, j) to the right, four each, in this
-- format.
pub record ArePoints (p : Shown) (i j count : ℕ) (bytes : List ℕ) (format : Format) : Type 0 where
  pub as_many : length bytes ≡ 4 * count
  pub colors : (k : ℕ) → k < count → argb_of format bytes k ≡ color_at p (i + k) j

-- the layout of a buffer of one pixel, which is all that there is
abbrev pub one_pixel : Layout
one_pixel =
    record {
      offset = 0;
      w = 1;
      h = 1;
      stride = 4;
      format = Argb8888;
      wide_rows = leb-true 4 4 refl;
      some_columns = ltb-true 0 1 refl;
      some_rows = ltb-true 0 1 refl;
      offset_fits = ltb-true 0 (2 ^ 31) refl;
      height_fits = ltb-true 1 (2 ^ 31) refl;
      stride_fits = ltb-true 4 (2 ^ 31) refl;
    }

-- a picture of one transparent pixel: what lies below it stays as it is
abbrev pub transparent : Shown
transparent = record { bytes = 0 ∷ 0 ∷ 0 ∷ 0 ∷ []; layout = one_pixel; transform = Normal; scale = 1 }
