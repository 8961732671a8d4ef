-- The windows of the output, as they are lent to be painted.
use Rattle.std.specs.Prelude.{ℕ, List, Option, Some, None, map}
use Rattle.std.specs.Option.{option_map}
use Rattle.wl_geom.specs.Region.{Area}
use Rattle.wl_store.specs.Picture.{Shown, transparent}
use Rattle.wl_store.specs.Stores.{picture_turned}
use Rattle.wl_store.specs.declared.transform.Transform.{Transform}
use Rattle.wl_surface.specs.Kept.{Counting, counting_of}
use Rattle.wl_surface.specs.declared.content.Attached.{Attached}
use Rattle.wl_surface.specs.Slots.{Slots, kept_at}
use Rattle.wl_client.specs.View.{ClientView}
use Rattle.wl_paint.specs.Window.{Window}
use Rattle.wl_scene.specs.declared.tree_window.TreeWindow.{TreeWindow}
use Rattle.wl_scene.specs.declared.stacked.Stacked.{Stacked}

-- the picture of a buffer of a client's, turned and scaled so: none where the client, the buffer or its store isn't there, or it passes the
-- store's end
abbrev pub picture_shown : Option ClientView → Transform → ℕ → Option Attached → Option Shown
picture_shown None transform scale buffer = None
picture_shown (Some client) transform scale None = None
picture_shown (Some client) transform scale (Some a) = picture_turned a.store a.layout transform scale client.stores

-- A picture with an opaque region, at the window's corner. Where there is no picture, it is one pixel that leaves what is below it as it is, and
-- nothing of that is said to be opaque.
abbrev pub window_showing : Area → TreeWindow → Area → Option Shown → Window
window_showing nowhere window opaque None = record { x = window.x; y = window.y; picture = transparent; opaque = nowhere }
window_showing nowhere window opaque (Some picture) = record { x = window.x; y = window.y; picture = picture; opaque = opaque }

-- The window that is lent of one of a tree: what counts of its surface, if there is one, at the window's corner (wayland.xml,
-- wl_surface.set_opaque_region).
abbrev pub window_kept : Option ClientView → Area → TreeWindow → Option Counting → Window
window_kept client nowhere window None = window_showing nowhere window nowhere None
window_kept client nowhere window (Some k) =
    window_showing nowhere window k.opaque (picture_shown client k.transform k.scale.number k.buffer)

-- that of a window of the output, by the clients and what is kept of their surfaces
abbrev pub window_lent : (ℕ → Option ClientView) → (ℕ → Slots) → Area → Stacked → Window
window_lent clients slots nowhere s =
    window_kept (clients s.client) nowhere s.window (option_map counting_of (kept_at (slots s.client) s.window.surface))

-- those of all windows of the output, from the bottom
abbrev pub windows_lent : (ℕ → Option ClientView) → (ℕ → Slots) → Area → List Stacked → List Window
windows_lent clients slots nowhere stacked = map (window_lent clients slots nowhere) stacked
