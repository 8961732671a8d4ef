-- What a client promises: to damage each pixel that it changes, to leave buffers that are shown unchanged, and to call only opaque pixels
-- opaque (wayland.xml, wl_surface.damage, wl_buffer.release and wl_surface.set_opaque_region). Which windows a client has is told by
-- `shown`, as `all_windows`.
use Rattle.std.specs.Prelude.{ℕ, ◌≡◌, ℤ, ◌-ℤ◌, ◌==◌, ◌&&◌, not, nat_lt, Bool, false, Option, Some, None, List, [], ◌++◌, flat_map, filter}
use Rattle.std.specs.List.{list_any}
use Rattle.std.specs.Option.{option_map_or}
use Rattle.wl_geom.specs.Region.{holds}
use Rattle.wl_store.specs.Stores.{bytes_of}
use Rattle.wl_store.specs.declared.color.Argb.{Argb}
use Rattle.wl_surface.specs.Request.{Buffer}
use Rattle.wl_surface.specs.State.{applied, held}
use Rattle.wl_surface.specs.Surface.{Surface, listed}
use Rattle.spec_desktop.specs.Windows.{Window, contains}
use Rattle.spec_desktop.specs.Desktop.{Desktop, Resident, Showing, client_at, owned_in}
use Rattle.spec_desktop.specs.Happenings.{Happening, Message, Receive, Single, Starve}
use Rattle.spec_desktop.specs.Marks.{has_same_record}
use Rattle.spec_desktop.specs.Moments.{applied_between}
use Rattle.spec_desktop.specs.Scratch.{color_in, pixel_at}
use Rattle.spec_desktop.specs.Act.{Act, Store, Tick, Motion, Button}

abbrev pub is_same_color : Argb → Argb → Bool
is_same_color c d = ((c.a == d.a) && (c.r == d.r)) && ((c.g == d.g) && (c.b == d.b))

-- ---- buffers that are shown stay unchanged

-- the applied and the held buffer of a surface
abbrev pub busy_of : Surface → List Buffer
busy_of s = listed (applied s.history).buffer ++ listed (held s.history).buffer

abbrev pub busy_in : Desktop → ℕ → List Buffer
busy_in d c = flat_map busy_of (owned_in d c).surfaces.surfaces

abbrev pub bytes_by : ℕ → Option Resident → List ℕ
bytes_by store None = []
bytes_by store (Some r) = option_map_or (λ bytes. bytes) (bytes_of store r.peer.stores) []

abbrev pub bytes_in : Desktop → ℕ → ℕ → List ℕ
bytes_in d c store = bytes_by store (client_at c d)

-- a pixel of a buffer has another colour
abbrev pub is_rewritten_at : Desktop → Desktop → ℕ → ℕ → ℕ → Buffer → Bool
is_rewritten_at old new c x y b =
    (nat_lt x b.width && nat_lt y b.height)
    && not (is_same_color (pixel_at (bytes_in old c b.store) b (x, y)) (pixel_at (bytes_in new c b.store) b (x, y)))

abbrev pub spoils_at : Desktop → Desktop → ℕ → ℕ → ℕ → Bool
spoils_at old new c x y = list_any (is_rewritten_at old new c x y) (busy_in old c)

-- A store write changes no colour of a busy buffer of the client.
abbrev pub KeepsBuffers : Desktop → Desktop → ℕ → Type 0
KeepsBuffers old new c = (x y : ℕ) → spoils_at old new c x y ≡ false

-- ---- what changes is damaged

abbrev pub windows_by : Showing → ℕ → Desktop → List Window
windows_by shown c d = filter (λ w. w.owner.client == c) (shown d)

-- a window kept its record, and shows another colour at a point where no damage was applied
abbrev pub is_hidden_in : Desktop → Desktop → ℤ → ℤ → Window → Window → Bool
is_hidden_in old new x y before w =
    has_same_record before w
    && (contains w x y
    && (not (is_same_color (color_in old before x y) (color_in new w x y))
    && not (applied_between old new w.owner.client w.surface (x -ℤ w.corner.x) (y -ℤ w.corner.y))))

abbrev pub hides_at : Showing → Desktop → Desktop → ℕ → ℤ → ℤ → Bool
hides_at shown old new c x y =
    list_any (λ w. list_any (λ before. is_hidden_in old new x y before w) (windows_by shown c old)) (windows_by shown c new)

-- For each window of the client that keeps its record, the applied damage holds every point whose colour differs.
abbrev pub KeepsDamage : Showing → Desktop → Desktop → ℕ → Type 0
KeepsDamage shown old new c = (x y : ℤ) → hides_at shown old new c x y ≡ false

-- ---- what is called opaque is

abbrev pub is_clear_in : Desktop → ℤ → ℤ → Window → Bool
is_clear_in d x y w = contains w x y && (holds (x -ℤ w.corner.x) (y -ℤ w.corner.y) w.opaque && not ((color_in d w x y).a == 255))

abbrev pub feigns_at : Showing → Desktop → ℕ → ℤ → ℤ → Bool
feigns_at shown d c x y = list_any (is_clear_in d x y) (windows_by shown c d)

-- Every point of a window of the client that lies in its applied opaque region has the alpha 255.
abbrev pub KeepsOpaque : Showing → Desktop → ℕ → Type 0
KeepsOpaque shown d c = (x y : ℤ) → feigns_at shown d c x y ≡ false

-- ---- in a step

-- A client keeps its promises in a step: in a store write that on buffers, in any other that on damage, in a tick that on opaque regions
-- too. A motion of the pointer and a button are the user's: nothing of a client's changes in them, and nothing is asked of it.
abbrev pub Keeps : Showing → Act → Desktop → Desktop → ℕ → Type 0
Keeps shown (Store client store at bytes) old new c = KeepsBuffers old new c
Keeps shown (Tick time) old new c = KeepsDamage shown old new c × KeepsOpaque shown old c
Keeps shown (Motion time x y) old new c = Unit {0}
Keeps shown (Button time button pressed) old new c = Unit {0}
Keeps shown act old new c = KeepsDamage shown old new c

-- The same of whatever may happen, one message at a time. Nothing is asked as bytes come, of which no message is taken yet.
abbrev pub KeepsIn : Showing → Happening → Desktop → Desktop → ℕ → Type 0
KeepsIn shown (Receive client piece) old new c = Unit {0}
KeepsIn shown (Message client) old new c = KeepsDamage shown old new c
KeepsIn shown (Starve client) old new c = KeepsDamage shown old new c
KeepsIn shown (Single act done) old new c = Keeps shown act old new c

-- Each client keeps its promises but those of a set.
abbrev pub KeepBut : Showing → (ℕ → Bool) → Happening → Desktop → Desktop → Type 0
KeepBut shown liars happening old new = (c : ℕ) → liars c ≡ false → KeepsIn shown happening old new c
