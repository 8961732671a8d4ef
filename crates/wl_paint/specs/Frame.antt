-- Images as lists of bytes: 4 a pixel, blue, green, red and 255, row by row from the top.
use Rattle.std.specs.Prelude.{◌≡◌, ◌+◌, ◌*◌, ◌<◌, ◌≤◌, ◌&&◌, ℕ, zero, suc, Bool, nat_le, List, [], ◌∷◌, ◌++◌, length, slice_index}
use Rattle.wl_blend.specs.declared.color.Rgb.{Rgb}
use Rattle.wl_blend.specs.Blend.{color_of}

-- an image: its sides in pixels, the colour where no window is, and its bytes
pub record Image : Type 0 where
  pub width : ℕ
  pub height : ℕ
  pub background : Rgb
  pub pixels : List ℕ

-- the side of an output
abbrev pub is_side : ℕ → Bool
is_side n = nat_le 1 n && nat_le n 4096

-- the sides are those of an output, and there are 4 bytes for each pixel, the last of them 255
pub record IsImage (image : Image) : Type 0 where
  pub wide : image.width ≤ 4096
  pub high : image.height ≤ 4096
  pub some_width : 1 ≤ image.width
  pub some_height : 1 ≤ image.height
  pub sized : length image.pixels ≡ 4 * (image.width * image.height)
  pub fourths : (k : ℕ) → k < image.width * image.height → slice_index image.pixels (4 * k + 3) ≡ 255

-- the bytes of a pixel
abbrev pub pixel_bytes : Rgb → List ℕ
pixel_bytes color = color.b ∷ color.g ∷ color.r ∷ 255 ∷ []

-- the bytes of n pixels of one colour
abbrev pub filled : ℕ → Rgb → List ℕ
filled zero color = []
filled (suc n) color = filled n color ++ pixel_bytes color

-- the colour of the pixel in column x of row y
abbrev pub color_at : Image → ℕ → ℕ → Rgb
color_at image x y = color_of image.pixels (y * image.width + x)
