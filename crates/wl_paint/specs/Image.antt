-- An image as a binary PPM file, from pixels of 4 bytes each: blue, green, red and one more.
use Rattle.std.specs.Prelude.{ℕ, zero, suc, ◌+◌, ◌*◌, ◌/◌, List, [], ◌∷◌, ◌++◌, codes, length, slice_index}
use Rattle.std.specs.Fmt.{decimal}

-- red, green and blue of each of the first n pixels
abbrev pub colors : ℕ → List ℕ → List ℕ
colors zero pixels = []
colors (suc n) pixels =
    colors n pixels ++ slice_index pixels (4 * n + 2) ∷ slice_index pixels (4 * n + 1) ∷ slice_index pixels (4 * n) ∷ []

-- `P6`, the sides and 255, and then the colours of the pixels
abbrev pub image_of : ℕ → ℕ → List ℕ → List ℕ
image_of width height pixels =
    codes "P6\n" ++ decimal width ++ codes " " ++ decimal height ++ codes "\n255\n" ++ colors (length pixels / 4) pixels
