-- How a colour is laid over another, and the colours of pixels of four bytes.
use Rattle.std.specs.Prelude.{ℕ, ◌+◌, ◌-◌, ◌*◌, ◌/◌, min, List, slice_index}
use Rattle.wl_store.specs.declared.color.Argb.{Argb}
use Rattle.wl_blend.specs.declared.color.Rgb.{Rgb}

-- a 255th, to the nearest whole number
abbrev pub div255 : ℕ → ℕ
div255 v = (2 * v + 255) / 510

-- the channel d with the channel s laid over it, s being premultiplied by the alpha a
abbrev pub blended_channel : ℕ → ℕ → ℕ → ℕ
blended_channel d s a = min 255 (s + div255 (d * (255 - a)))

-- the colour d with s laid over it
abbrev pub blended : Rgb → Argb → Rgb
blended d s =
    record { r = blended_channel d.r s.r s.a; g = blended_channel d.g s.g s.a; b = blended_channel d.b s.b s.a }

-- the colour of pixel k of a framebuffer's bytes: blue, green and red
abbrev pub color_of : List ℕ → ℕ → Rgb
color_of pixels k =
    record { r = slice_index pixels (4 * k + 2); g = slice_index pixels (4 * k + 1); b = slice_index pixels (4 * k) }
