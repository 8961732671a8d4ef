-- Layouts with the same numbers.
use Rattle.std.proofs.Common.{◌≡◌, ◌≤◌, ◌<◌, ◌^◌, refl}
use Rattle.std.proofs.Math.Bridge.{le_prop}
use Rattle.wl_store.specs.declared.color.Format.TheVariants.{Argb8888}
use Rattle.wl_store.specs.Picture.{one_pixel}

-- the layout of one pixel, however its bounds are shown
pub one-pixel : (a : 4 ≤ 4) (b c : 0 < 1) (d : 0 < 2 ^ 31) (e : 1 < 2 ^ 31) (f : 4 < 2 ^ 31)
    → record { offset = 0; w = 1; h = 1; stride = 4; format = Argb8888; wide_rows = a; some_columns = b; some_rows = c; offset_fits = d; height_fits = e; stride_fits = f } ≡ one_pixel
one-pixel a b c d e f =
    rw (
      le_prop a one_pixel.wide_rows,
      le_prop b one_pixel.some_columns,
      le_prop c one_pixel.some_rows,
      le_prop d one_pixel.offset_fits,
      le_prop e one_pixel.height_fits,
      le_prop f one_pixel.stride_fits,
    ) refl
