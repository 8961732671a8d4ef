-- The desktop painted from nothing.
use Rattle.std.specs.Prelude.{ℕ, ◌+◌, ◌*◌, ℤ, ◌-ℤ◌, unsigned_abs, cond, if◌then◌else◌, fold, length, nat_le, slice_index, List, [], Option}
use Rattle.std.specs.Prelude.{Some, None}
use Rattle.std.specs.Option.{option_map_or}
use Rattle.wl_store.specs.Layout.{alpha_of}
use Rattle.wl_store.specs.Stores.{bytes_of}
use Rattle.wl_store.specs.Transform.{buffer_point, scaled, transform_of}
use Rattle.wl_store.specs.declared.color.Argb.{Argb}
use Rattle.wl_blend.specs.Blend.{blended}
use Rattle.wl_blend.specs.declared.color.Rgb.{Rgb}
use Rattle.wl_surface.specs.Request.{Buffer}
use Rattle.spec_desktop.specs.Windows.{Window, contains}
use Rattle.spec_desktop.specs.Desktop.{Desktop, Resident, Showing, client_at}
use Rattle.spec_desktop.specs.Stacked.{all_windows}

-- the bytes of a client's store as they are now
abbrev pub bytes_now : Window → Option Resident → List ℕ
bytes_now w None = []
bytes_now w (Some r) = option_map_or (λ bytes. bytes) (bytes_of w.buffer.store r.peer.stores) []

-- The pixel of a buffer in these bytes: blue, green, red and alpha (wayland.xml, wl_shm.format). Nothing is seen of a buffer that passes
-- their end, as where its store isn't there.
abbrev pub pixel_at : List ℕ → Buffer → ℕ × ℕ → Argb
pixel_at bytes b point =
    let at = b.offset + point.1 * b.stride + 4 * point.0 in
    if nat_le (b.offset + b.stride * b.height) (length bytes)
    then record {
      a = alpha_of b.format (slice_index bytes (at + 3));
      r = slice_index bytes (at + 2);
      g = slice_index bytes (at + 1);
      b = slice_index bytes at;
    }
    else record { a = 0; r = 0; g = 0; b = 0 }

-- a window's colour at a point of the output that it contains
abbrev pub color_in : Desktop → Window → ℤ → ℤ → Argb
color_in d w x y =
    pixel_at (bytes_now w (client_at w.owner.client d)) w.buffer
    (scaled w.scale
    (buffer_point (transform_of w.transform) w.width w.height (unsigned_abs (x -ℤ w.corner.x)) (unsigned_abs (y -ℤ w.corner.y))))

abbrev pub over : Desktop → ℤ → ℤ → Rgb → Window → Rgb
over d x y under w = cond (contains w x y) (blended under (color_in d w x y)) under

-- The colour of a point painted from nothing: the background, and over it each window that contains the point, from the bottom.
abbrev pub scratch_of : Showing → Rgb → Desktop → ℤ → ℤ → Rgb
scratch_of shown background d x y = fold (over d x y) background (shown d)

-- with all its windows
abbrev pub scratch : Rgb → Desktop → ℤ → ℤ → Rgb
scratch background d x y = scratch_of all_windows background d x y
