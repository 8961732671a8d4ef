-- Which layouts are accepted, and which colour lies at a point of a buffer.
use Rattle.std.specs.Prelude.{ℕ, ◌+◌, ◌*◌, ◌≤◌, ℤ, pos, ◌+ℤ◌, ◌*ℤ◌, int_le, int_lt, nat_lt, nat_le, Bool, ◌&&◌, cond, Option, Some, None}
use Rattle.std.specs.Prelude.{List, slice_index}
use Rattle.wl_store.specs.declared.color.Argb.{Argb}
use Rattle.wl_store.specs.declared.color.Format.{Format}
use Rattle.wl_store.specs.declared.color.Format.TheVariants.{Argb8888, Xrgb8888}
use Rattle.wl_store.specs.declared.place.Layout.{Layout}
use Rattle.wl_store.specs.declared.place.LayoutError.{LayoutError}
use Rattle.wl_store.specs.declared.place.LayoutError.TheVariants as refusal

-- the format of a number, where it is 0 or 1
abbrev pub format_of : ℕ → Format
format_of number = cond (nat_lt number 1) Argb8888 Xrgb8888

-- there are rows and columns, each row is as wide as its pixels, and the last ends within so many
-- bytes
abbrev pub has_room : ℕ → ℕ → ℕ → ℕ → ℕ → Bool
has_room size offset w h stride = ((nat_lt 0 w && nat_lt 0 h) && nat_le (4 * w) stride) && nat_le (offset + stride * h) size

-- the same of the numbers that a client sends, none of which may be negative
abbrev pub is_valid : ℕ → ℤ → ℤ → ℤ → ℤ → Bool
is_valid size offset w h stride =
    (((int_le (pos 0) offset && int_lt (pos 0) w) && int_lt (pos 0) h) && int_le (pos 4 *ℤ w) stride)
    && int_le (offset +ℤ stride *ℤ h) (pos size)

-- why a layout is refused, if it is; an unknown format comes first
abbrev pub layout_refusal : ℕ → ℤ → ℤ → ℤ → ℤ → ℕ → Option LayoutError
layout_refusal size offset w h stride format =
    cond (nat_lt 1 format) (Some refusal.Format) (cond (is_valid size offset w h stride) None (Some refusal.Stride))

-- the buffer ends within so many bytes
abbrev pub FitsIn : ℕ → Layout → Type 0
FitsIn size l = l.offset + l.stride * l.h ≤ size

-- the alpha of a pixel with this fourth byte
abbrev pub alpha_of : Format → ℕ → ℕ
alpha_of Argb8888 byte = byte
alpha_of Xrgb8888 byte = 255

-- where the pixel at the point (x, y) of the buffer begins
abbrev pub place_of : Layout → ℕ × ℕ → ℕ
place_of l point = l.offset + point.1 * l.stride + 4 * point.0

-- the colour at the point (x, y) of a buffer with this layout in these bytes
abbrev pub buffer_color : List ℕ → Layout → ℕ × ℕ → Argb
buffer_color bytes l point =
    let at = place_of l point in
    record {
      a = alpha_of l.format (slice_index bytes (at + 3));
      r = slice_index bytes (at + 2);
      g = slice_index bytes (at + 1);
      b = slice_index bytes at;
    }

-- the colour of pixel k of a buffer's bytes: blue, green, red and alpha
abbrev pub argb_of : Format → List ℕ → ℕ → Argb
argb_of format bytes k = record {
  a = alpha_of format (slice_index bytes (4 * k + 3));
  r = slice_index bytes (4 * k + 2);
  g = slice_index bytes (4 * k + 1);
  b = slice_index bytes (4 * k);
}
