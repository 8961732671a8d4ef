-- Stores of buffers go one after another, and the buffer that one surface showed is released.
use Rattle.std.specs.Prelude.{◌==◌, ◌&&◌, not, Bool, false, if◌then◌else◌, Option, Some, None}
use Rattle.spec_desktop.specs.Peer.{released}
use Rattle.wl_store.specs.Stores.{Stock}
use Rattle.wl_surface.specs.Request.{Buffer}
use Rattle.wl_surface.specs.Surfaces.{is_busy}
use Rattle.spec_desktop.specs.Desktop.{Resident}
use Rattle.spec_desktop.specs.Replies.{has_object}

-- they are the same buffer
abbrev pub same_number : Option Buffer → Option Buffer → Bool
same_number (Some b) (Some c) = b.number == c.number
same_number (Some b) None = false
same_number None c = false

-- its store goes where it is over, unless it went before
abbrev pub let_if : (Buffer → Bool) → Bool → Option Buffer → Stock → Stock
let_if over again None stores = stores
let_if over again (Some b) stores = if not again && over b then released b.store stores else stores

-- a buffer that was busy isn't any more, and its wl_buffer lives
abbrev pub is_released : Resident → Buffer → Bool
is_released r b = not (is_busy b.number r.owned.surfaces) && has_object r b
