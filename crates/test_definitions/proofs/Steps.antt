-- Worked recordings where every request is served, computed on the definitions: what they have in common.
use Rattle.std.proofs.Common.{ℕ, List, [], ◌∷◌, ◌++◌, Option, Some, None, map}
use Rattle.std.specs.Prelude.{ℤ, pos, codes, ◌*◌, true, false}
use Rattle.std.specs.Option.{option_map_or}
use Rattle.wl_wire.specs.Wire.{Field, Word, Number, Text, message_bytes}
use Rattle.spec_desktop.specs.declared.cause.Cause.{Cause}
use Rattle.spec_desktop.specs.Told.{Output}
use Rattle.wl_blend.specs.declared.color.Rgb.{Rgb}
use Rattle.wl_surface.specs.Request.{Request}
use Rattle.wl_surface.specs.Surfaces.{with_change}
use Rattle.spec_desktop.specs.Windows.{Place, Window}
use Rattle.law_desktop.specs.Ample.{fed, happened}
use Rattle.spec_desktop.specs.Desktop.{Desktop, Resident, arrival, client_at, empty, with_client}
use Rattle.spec_desktop.specs.Scratch.{scratch_of}
use Rattle.spec_desktop.specs.Stacked.{all_windows}
use Rattle.spec_desktop.specs.Step.{with_surfaces}
use Rattle.spec_desktop.specs.Act.{Store, Leave, Tick, Motion, Button}

-- two clients on an output of 64 by 64
abbrev pub start : Desktop
start =
    let output : Output = record { width = 64; height = 64 } in
    with_client 1 (Some (arrival output)) (with_client 2 (Some (arrival output)) (empty output))

-- a request of a client to an object
abbrev pub asks : ℕ → ℕ → ℕ → List Field → Desktop → Desktop
asks c object opcode fields d = fed c (message_bytes object opcode fields) d

abbrev pub motion : ℕ → ℤ → ℤ → Desktop → Desktop
motion time x y d = happened (Motion time x y) d

abbrev pub press : ℕ → ℕ → Desktop → Desktop
press time button d = happened (Button time button true) d

abbrev pub release : ℕ → ℕ → Desktop → Desktop
release time button d = happened (Button time button false) d

abbrev pub tick : ℕ → Desktop → Desktop
tick time d = happened (Tick time) d

abbrev pub leaves : ℕ → Desktop → Desktop
leaves c d = happened (Leave c) d

-- bytes are put into a store of a client
abbrev pub stores : ℕ → ℕ → List ℕ → ℕ → Desktop → Desktop
stores store at bytes c d = happened (Store c store at bytes) d

abbrev asked_by : List Request → ℕ → Option Resident → Desktop → Desktop
asked_by requests surface None d = d
asked_by requests surface (Some r) d =
    with_client 1 (Some (with_surfaces (with_change surface (λ s. record s { history = record s.history { requests = s.history.requests ++ requests } }) r.owned.surfaces) r)) d

-- a surface of the first client is left as so many more requests leave it
abbrev pub asked_more : List Request → ℕ → Desktop → Desktop
asked_more requests surface d = asked_by requests surface (client_at 1 d) d

abbrev quiet : ℕ → Option Resident → Desktop → Desktop
quiet c None d = d
quiet c (Some r) d = with_client c (Some (record r { peer = record r.peer { unsent = [] } })) d

-- what waits for a client is sent
abbrev pub sent : ℕ → Desktop → Desktop
sent c d = quiet c (client_at c d) d

abbrev pub unsent : ℕ → Desktop → List ℕ
unsent c d = option_map_or (λ (r : Resident). r.peer.unsent) (client_at c d) []

abbrev status_of : Option Resident → Option Cause
status_of None = None
status_of (Some r) = r.peer.status

abbrev pub status : ℕ → Desktop → Option Cause
status c d = status_of (client_at c d)

abbrev pub black : Rgb
black = record { r = 0; g = 0; b = 0 }

abbrev pub red : Rgb
red = record { r = 255; g = 0; b = 0 }

abbrev pub green : Rgb
green = record { r = 0; g = 255; b = 0 }

abbrev pub color : Desktop → ℤ → ℤ → Rgb
color d x y = scratch_of all_windows black d x y

-- where the windows stand
abbrev pub corners : Desktop → List Place
corners d = map (λ (w : Window). w.corner) (all_windows d)

abbrev pub at : ℤ → ℤ → Place
at x y = record { x = x; y = y }

-- ---- events, byte by byte

abbrev pub u32 : ℕ → List ℕ
u32 byte = byte ∷ 0 ∷ 0 ∷ 0 ∷ []

-- a number of pixels as a fixed number
abbrev pub fixed : ℕ → List ℕ
fixed byte = 0 ∷ byte ∷ 0 ∷ 0 ∷ []

-- an event of so many bytes: the object, the opcode and the size
abbrev pub event : ℕ → ℕ → ℕ → List ℕ → List ℕ
event object opcode size rest = object ∷ 0 ∷ 0 ∷ 0 ∷ opcode ∷ 0 ∷ size ∷ 0 ∷ rest

-- wl_display.delete_id
abbrev pub delete_id : ℕ → List ℕ
delete_id id = event 1 1 12 (u32 id)

-- wl_callback.done
abbrev pub done : ℕ → ℕ → List ℕ
done id time = event id 0 12 (u32 time)

-- wl_buffer.release
abbrev pub buffer_release : ℕ → List ℕ
buffer_release id = event id 0 8 []

-- wl_pointer.enter, leave, motion and button, the button 272
abbrev pub enter : ℕ → ℕ → ℕ → ℕ → ℕ → List ℕ
enter pointer serial surface x y = event pointer 0 24 (u32 serial ++ u32 surface ++ fixed x ++ fixed y)

abbrev pub leave : ℕ → ℕ → ℕ → List ℕ
leave pointer serial surface = event pointer 1 16 (u32 serial ++ u32 surface)

abbrev pub moved : ℕ → ℕ → ℕ → ℕ → List ℕ
moved pointer time x y = event pointer 2 20 (u32 time ++ fixed x ++ fixed y)

abbrev pub button : ℕ → ℕ → ℕ → ℕ → List ℕ
button pointer serial time state = event pointer 3 24 (u32 serial ++ u32 time ++ 16 ∷ 1 ∷ 0 ∷ 0 ∷ u32 state)

-- xdg_toplevel.configure(0, 0, [4])
abbrev pub toplevel_configure : ℕ → List ℕ
toplevel_configure id = event id 0 24 (u32 0 ++ u32 0 ++ u32 4 ++ u32 4)

-- xdg_surface.configure
abbrev pub xdg_configure : ℕ → ℕ → List ℕ
xdg_configure id serial = event id 0 12 (u32 serial)

-- ---- setups

abbrev pub bind : ℕ → ℕ → List ℕ → ℕ → ℕ → Desktop → Desktop
bind c name interface version id d = asks c 2 0 (Word name ∷ Text interface ∷ Word version ∷ Word id ∷ []) d

-- a client has bound a wl_compositor as 3, a wl_shm as 4 and an xdg_wm_base as 5, the first and the last at these versions
abbrev pub with_versions : ℕ → ℕ → ℕ → Desktop → Desktop
with_versions compositor base c d =
    bind c 6 (codes "xdg_wm_base") base 5 (bind c 3 (codes "wl_shm") 1 4
    (bind c 1 (codes "wl_compositor") compositor 3 (asks c 1 1 (Word 2 ∷ []) d)))

abbrev pub with_globals : ℕ → Desktop → Desktop
with_globals c d = with_versions 2 1 c d

abbrev pub attach : ℕ → ℕ → ℕ → Desktop → Desktop
attach c surface buffer d = asks c surface 1 (Word buffer ∷ Number (pos 0) ∷ Number (pos 0) ∷ []) d

abbrev pub damage : ℕ → ℕ → ℤ → ℤ → ℤ → ℤ → Desktop → Desktop
damage c surface x y w h d = asks c surface 2 (Number x ∷ Number y ∷ Number w ∷ Number h ∷ []) d

abbrev pub commit : ℕ → ℕ → Desktop → Desktop
commit c surface d = asks c surface 6 [] d

-- wl_compositor.create_surface, xdg_wm_base.get_xdg_surface and xdg_surface.ack_configure
abbrev pub create_surface : ℕ → ℕ → Desktop → Desktop
create_surface c id d = asks c 3 0 (Word id ∷ []) d

abbrev pub get_xdg_surface : ℕ → ℕ → ℕ → Desktop → Desktop
get_xdg_surface c id surface d = asks c 5 2 (Word id ∷ Word surface ∷ []) d

abbrev pub acknowledge : ℕ → ℕ → ℕ → Desktop → Desktop
acknowledge c xdg serial d = asks c xdg 4 (Word serial ∷ []) d

-- a buffer of a pool, with sides of so many pixels
abbrev pub create_buffer : ℕ → ℕ → ℕ → ℕ → ℕ → Desktop → Desktop
create_buffer c pool id at side d =
    asks c pool 0 (Word id ∷ Number (pos at) ∷ Number (pos side) ∷ Number (pos side) ∷ Number (pos (4 * side)) ∷ Word 1 ∷ []) d

-- a surface 6, its xdg_surface 7 and its toplevel 8, which is configured
abbrev pub with_toplevel : ℕ → Desktop → Desktop
with_toplevel c d = commit c 6 (asks c 7 1 (Word 8 ∷ []) (get_xdg_surface c 7 6 (create_surface c 6 d)))

-- a pool 9 of 12,800 bytes
abbrev pub with_pool : ℕ → Desktop → Desktop
with_pool c d = asks c 4 0 (Word 9 ∷ Number (pos 12800) ∷ []) d

-- a toplevel that may show two buffers, 10 and 11, so far apart, with sides of so many pixels
abbrev pub prepared : ℕ → ℕ → ℕ → Desktop → Desktop
prepared apart side c d =
    create_buffer c 9 11 apart side (create_buffer c 9 10 0 side (with_pool c (acknowledge c 7 1 (with_toplevel c d))))

-- which shows the first, with sides of so many pixels
abbrev pub shows_first : ℕ → ℕ → Desktop → Desktop
shows_first side c d = commit c 6 (damage c 6 (pos 0) (pos 0) (pos side) (pos side) (attach c 6 10 d))

abbrev pub showing : ℕ → ℕ → ℕ → Desktop → Desktop
showing apart side c d = shows_first side c (prepared apart side c (with_globals c d))

-- a window of 40 by 40 pixels
abbrev pub shown : ℕ → Desktop → Desktop
shown c d = sent c (showing 6400 40 c d)

-- with a wl_seat 12 and its wl_pointer 13
abbrev pub with_pointer : ℕ → Desktop → Desktop
with_pointer c d = asks c 12 0 (Word 13 ∷ []) (bind c 5 (codes "wl_seat") 1 12 d)
