-- Worked recordings with toplevels, computed on the definitions.
use Rattle.std.proofs.Common.{◌≡◌, ℕ, zero, suc, List, [], ◌∷◌, ◌++◌, Option, Some, None, true, false, refl, map}
use Rattle.std.specs.Prelude.{replicate, Ok, ℤ, pos, negsuc, codes}
use Rattle.std.specs.Option.{option_map_or}
use Rattle.wl_wire.specs.Wire.{Field, Word, Number, Text, message_bytes}
use Rattle.spec_desktop.specs.declared.cause.Cause.{Cause}
use Rattle.spec_desktop.specs.declared.cause.Cause.TheVariants.{Protocol}
use Rattle.spec_desktop.specs.Peer.{stored_at}
use Rattle.spec_desktop.specs.Told.{Output}
use Rattle.wl_store.specs.Stores.{size_of}
use Rattle.wl_blend.specs.declared.color.Rgb.{Rgb}
use Rattle.wl_surface.specs.Trees.{applied_tree, behaves_synchronised, depth, descends_from, height}
use Rattle.spec_desktop.specs.Windows.{Place, Window, tree}
use Rattle.spec_desktop.specs.Desktop.{Desktop, Resident, arrival, client_at, empty, with_client}
use Rattle.spec_desktop.specs.Moments.{marks_at_least}
use Rattle.law_desktop.specs.Ample.{fed}
use Rattle.spec_desktop.specs.Scratch.{scratch}
use Rattle.spec_desktop.specs.Stacked.{all_windows}
use Rattle.spec_desktop.specs.Ask.{CreateSurface, ConfigureAgain}
use Rattle.spec_desktop.specs.WlSurface.{refuse_limit, surface_created}
use Rattle.spec_desktop.specs.XdgShell.{configured_again}
use Rattle.wl_shell.specs.declared.stage.Stage.TheVariants.{Waiting}
use Rattle.wl_shell.specs.Shell.{Toplevel, XdgSurface}

-- two clients on an output of 64 by 64
abbrev pub start : Desktop
start =
    let output : Output = record { width = 64; height = 64 } in
    with_client 1 (Some (arrival output)) (with_client 2 (Some (arrival output)) (empty output))

-- a request of a client to an object
abbrev pub asks : ℕ → ℕ → ℕ → List Field → Desktop → Desktop
asks c object opcode fields d = fed c (message_bytes object opcode fields) d

abbrev quiet : ℕ → Option Resident → Desktop → Desktop
quiet c None d = d
quiet c (Some r) d = with_client c (Some (record r { peer = record r.peer { unsent = [] } })) d

-- what waits for a client is sent
abbrev pub sent : ℕ → Desktop → Desktop
sent c d = quiet c (client_at c d) d

abbrev unsent : ℕ → Desktop → List ℕ
unsent c d = option_map_or (λ (r : Resident). r.peer.unsent) (client_at c d) []

abbrev status_of : Option Resident → Option Cause
status_of None = None
status_of (Some r) = r.peer.status

abbrev status : ℕ → Desktop → Option Cause
status c d = status_of (client_at c d)

abbrev bind : ℕ → ℕ → List ℕ → ℕ → ℕ → Desktop → Desktop
bind c name interface version id d = asks c 2 0 (Word name ∷ Text interface ∷ Word version ∷ Word id ∷ []) d

-- a client has bound a wl_compositor as 3, a wl_shm as 4 and an xdg_wm_base as 5
abbrev with_globals : ℕ → Desktop → Desktop
with_globals c d =
    bind c 6 (codes "xdg_wm_base") 1 5 (bind c 3 (codes "wl_shm") 1 4 (bind c 1 (codes "wl_compositor") 2 3 (asks c 1 1 (Word 2 ∷ []) d)))

-- with a surface 6, its xdg_surface 7 and its toplevel 8
abbrev with_toplevel : ℕ → Desktop → Desktop
with_toplevel c d = asks c 7 1 (Word 8 ∷ []) (asks c 5 2 (Word 7 ∷ Word 6 ∷ []) (asks c 3 0 (Word 6 ∷ []) (sent c (with_globals c d))))

abbrev pub commit : ℕ → Desktop → Desktop
commit c d = asks c 6 6 [] d

-- which was configured
abbrev configured : ℕ → Desktop → Desktop
configured c d = commit c (with_toplevel c d)

-- xdg_toplevel.configure(0, 0, [4]) to 8
abbrev toplevel_configure : List ℕ
toplevel_configure = 8 ∷ 0 ∷ 0 ∷ 0 ∷ 0 ∷ 0 ∷ 24 ∷ 0 ∷ 0 ∷ 0 ∷ 0 ∷ 0 ∷ 0 ∷ 0 ∷ 0 ∷ 0 ∷ 4 ∷ 0 ∷ 0 ∷ 0 ∷ 4 ∷ 0 ∷ 0 ∷ 0 ∷ []

-- xdg_surface.configure to 7
abbrev xdg_configure : ℕ → List ℕ
xdg_configure serial = 7 ∷ 0 ∷ 0 ∷ 0 ∷ 0 ∷ 0 ∷ 12 ∷ 0 ∷ serial ∷ 0 ∷ 0 ∷ 0 ∷ []

-- wl_buffer.release of the buffer 10
abbrev buffer_release : List ℕ
buffer_release = 10 ∷ 0 ∷ 0 ∷ 0 ∷ 0 ∷ 0 ∷ 8 ∷ 0 ∷ []

pub row_first_commit : unsent 1 (configured 1 start) ≡ toplevel_configure ++ xdg_configure 1
unfolding tree applied_tree behaves_synchronised depth descends_from height
row_first_commit = refl

-- with a pool 9 of 12,800 bytes and two buffers, 10 and 11, of 40 by 40 pixels
abbrev with_buffers : ℕ → Desktop → Desktop
with_buffers c d =
    asks c 9 0 (Word 11 ∷ Number (pos 6400) ∷ Number (pos 40) ∷ Number (pos 40) ∷ Number (pos 160) ∷ Word 1 ∷ [])
    (asks c 9 0 (Word 10 ∷ Number (pos 0) ∷ Number (pos 40) ∷ Number (pos 40) ∷ Number (pos 160) ∷ Word 1 ∷ [])
    (asks c 4 0 (Word 9 ∷ Number (pos 12800) ∷ []) d))

abbrev acknowledged : ℕ → ℕ → Desktop → Desktop
acknowledged serial c d = asks c 7 4 (Word serial ∷ []) d

abbrev pub attach : ℕ → ℤ → ℕ → Desktop → Desktop
attach buffer x c d = asks c 6 1 (Word buffer ∷ Number x ∷ Number (pos 0) ∷ []) d

abbrev pub damage : ℤ → ℤ → ℤ → ℤ → ℕ → Desktop → Desktop
damage x y w h c d = asks c 6 2 (Number x ∷ Number y ∷ Number w ∷ Number h ∷ []) d

-- which is configured, acknowledged, and shows the first buffer
abbrev pub ready : ℕ → Desktop → Desktop
ready c d = sent c (with_buffers c (acknowledged 1 c (configured c d)))

abbrev pub shown : ℕ → Desktop → Desktop
shown c d = commit c (damage (pos 0) (pos 0) (pos 40) (pos 40) c (attach 10 (pos 0) c (ready c d)))

abbrev pub black : Rgb
black = record { r = 0; g = 0; b = 0 }

abbrev pub red : Rgb
red = record { r = 255; g = 0; b = 0 }

abbrev pub green : Rgb
green = record { r = 0; g = 255; b = 0 }

abbrev color : Desktop → ℤ → ℤ → Rgb
color d x y = scratch black d x y

abbrev stores_by : ℕ → ℕ → List ℕ → Option Resident → ℕ → Desktop → Desktop
stores_by store at bytes None c d = d
stores_by store at bytes (Some r) c d = with_client c (Some (record r { peer = stored_at r.peer.status store at bytes r.peer })) d

-- bytes are put into a store of a client
abbrev pub stores : ℕ → ℕ → List ℕ → ℕ → Desktop → Desktop
stores store at bytes c d = stores_by store at bytes (client_at c d) c d

abbrev corners : Desktop → List Place
corners d = map (λ (w : Window). w.corner) (all_windows d)

abbrev at : ℤ → ℤ → Place
at x y = record { x = x; y = y }

-- one window of 40 by 40 pixels, in the corner
abbrev pub one : Desktop
one = shown 1 start

pub row_shown : corners one ≡ at (pos 0) (pos 0) ∷ []
unfolding tree applied_tree behaves_synchronised depth descends_from height
row_shown = refl

pub row_shown-unanswered : unsent 1 one ≡ []
unfolding tree applied_tree behaves_synchronised depth descends_from height
row_shown-unanswered = refl

-- its mapping marks it
pub row_shown-marks : marks_at_least (ready 1 start) one (pos 39) (pos 39) ≡ true
unfolding tree applied_tree behaves_synchronised depth descends_from height
row_shown-marks = refl

pub row_shown-marks-beside : marks_at_least (ready 1 start) one (pos 40) (pos 39) ≡ false
unfolding tree applied_tree behaves_synchronised depth descends_from height
row_shown-marks-beside = refl

-- red pixels are put into the second buffer, three in each of three rows
abbrev three_red : List ℕ
three_red = 0 ∷ 0 ∷ 255 ∷ 0 ∷ 0 ∷ 0 ∷ 255 ∷ 0 ∷ 0 ∷ 0 ∷ 255 ∷ 0 ∷ []

abbrev reddened : Desktop → Desktop
reddened d = stores 1 12124 three_red 1 (stores 1 11964 three_red 1 (stores 1 11804 three_red 1 d))

-- a second client has two buffers of 8 by 8 pixels, and shows the first, which is green
abbrev with_small_buffers : ℕ → Desktop → Desktop
with_small_buffers c d =
    asks c 9 0 (Word 11 ∷ Number (pos 256) ∷ Number (pos 8) ∷ Number (pos 8) ∷ Number (pos 32) ∷ Word 1 ∷ [])
    (asks c 9 0 (Word 10 ∷ Number (pos 0) ∷ Number (pos 8) ∷ Number (pos 8) ∷ Number (pos 32) ∷ Word 1 ∷ [])
    (asks c 4 0 (Word 9 ∷ Number (pos 12800) ∷ []) d))

abbrev green_pixels : ℕ → List ℕ
green_pixels zero = []
green_pixels (suc n) = 0 ∷ 255 ∷ 0 ∷ 0 ∷ green_pixels n

abbrev pub two_ready : Desktop
two_ready = sent 2 (stores 1 0 (green_pixels 64) 2 (with_small_buffers 2 (acknowledged 1 2 (configured 2 (reddened one)))))

abbrev pub two : Desktop
two = commit 2 (damage (pos 0) (pos 0) (pos 8) (pos 8) 2 (attach 10 (pos 0) 2 two_ready))

-- it stands in the next place
pub row_two : corners two ≡ at (pos 0) (pos 0) ∷ at (pos 32) (pos 32) ∷ []
unfolding tree applied_tree behaves_synchronised depth descends_from height
row_two = refl

pub row_two-green : color two (pos 32) (pos 32) ≡ green
unfolding tree applied_tree behaves_synchronised depth descends_from height
row_two-green = refl

-- the red pixels are of the buffer that the first client does not show yet
pub row_two-black : color two (pos 31) (pos 33) ≡ black
unfolding tree applied_tree behaves_synchronised depth descends_from height
row_two-black = refl

pub row_two-marks : marks_at_least two_ready two (pos 39) (pos 39) ≡ true
unfolding tree applied_tree behaves_synchronised depth descends_from height
row_two-marks = refl

pub row_two-marks-beside : marks_at_least two_ready two (pos 31) (pos 33) ≡ false
unfolding tree applied_tree behaves_synchronised depth descends_from height
row_two-marks-beside = refl

-- the first client attaches it, with damage where it differs
abbrev pub three_ready : Desktop
three_ready = damage (pos 31) (pos 33) (pos 3) (pos 3) 1 (attach 11 (pos 0) 1 two)

abbrev pub three : Desktop
three = commit 1 three_ready

pub row_three-red : color three (pos 31) (pos 35) ≡ red
unfolding tree applied_tree behaves_synchronised depth descends_from height
row_three-red = refl

-- the second window is above
pub row_three-green : color three (pos 32) (pos 33) ≡ green
unfolding tree applied_tree behaves_synchronised depth descends_from height
row_three-green = refl

pub row_three-black : color three (pos 30) (pos 33) ≡ black
unfolding tree applied_tree behaves_synchronised depth descends_from height
row_three-black = refl

pub row_three-marks : marks_at_least three_ready three (pos 31) (pos 33) ≡ true
unfolding tree applied_tree behaves_synchronised depth descends_from height
row_three-marks = refl

pub row_three-marks-last : marks_at_least three_ready three (pos 33) (pos 35) ≡ true
unfolding tree applied_tree behaves_synchronised depth descends_from height
row_three-marks-last = refl

pub row_three-marks-beside : marks_at_least three_ready three (pos 34) (pos 33) ≡ false
unfolding tree applied_tree behaves_synchronised depth descends_from height
row_three-marks-beside = refl

pub row_three-others : unsent 2 three ≡ []
unfolding tree applied_tree behaves_synchronised depth descends_from height
row_three-others = refl

-- a write to a store that is shown marks nothing, and shows only there
abbrev pub rewritten : Desktop
rewritten = stores 1 0 (0 ∷ 0 ∷ 255 ∷ 0 ∷ []) 2 two

pub row_rewritten-marks : marks_at_least two rewritten (pos 32) (pos 32) ≡ false
unfolding tree applied_tree behaves_synchronised depth descends_from height
row_rewritten-marks = refl

pub row_rewritten-red : color rewritten (pos 32) (pos 32) ≡ red
unfolding tree applied_tree behaves_synchronised depth descends_from height
row_rewritten-red = refl

pub row_rewritten-beside : color rewritten (pos 33) (pos 32) ≡ green
unfolding tree applied_tree behaves_synchronised depth descends_from height
row_rewritten-beside = refl

-- A pool is destroyed before its buffer is shown: its store lives on, and is written.
abbrev without_pool : Desktop
without_pool = asks 1 9 1 [] (ready 1 start)

-- wl_display.delete_id
abbrev delete_id : ℕ → List ℕ
delete_id id = 1 ∷ 0 ∷ 0 ∷ 0 ∷ 1 ∷ 0 ∷ 12 ∷ 0 ∷ id ∷ 0 ∷ 0 ∷ 0 ∷ []

pub row_pool_gone : unsent 1 without_pool ≡ delete_id 9
unfolding tree applied_tree behaves_synchronised depth descends_from height
row_pool_gone = refl

pub row_pool_gone-red : color (commit 1 (attach 10 (pos 0) 1 (stores 1 0 (0 ∷ 0 ∷ 255 ∷ 0 ∷ []) 1 without_pool))) (pos 0) (pos 0) ≡ red
unfolding tree applied_tree behaves_synchronised depth descends_from height
row_pool_gone-red = refl

-- then the wl_buffer too: it goes on being shown, and its store goes with it when another is attached
abbrev without_buffers : Desktop
without_buffers = asks 1 11 0 [] (asks 1 10 0 [] (asks 1 9 1 [] one))

abbrev size_in : Option Resident → ℕ
size_in None = 0
size_in (Some r) = size_of 1 r.peer.stores

abbrev store_size : Desktop → ℕ
store_size d = size_in (client_at 1 d)

pub row_buffer_gone : store_size without_buffers ≡ 12800
unfolding tree applied_tree behaves_synchronised depth descends_from height
row_buffer_gone = refl

pub row_buffer_gone-shown : corners without_buffers ≡ at (pos 0) (pos 0) ∷ []
unfolding tree applied_tree behaves_synchronised depth descends_from height
row_buffer_gone-shown = refl

-- a null attach that is pending keeps it
pub row_buffer_gone-pending : store_size (attach 0 (pos 0) 1 without_buffers) ≡ 12800
unfolding tree applied_tree behaves_synchronised depth descends_from height
row_buffer_gone-pending = refl

pub row_buffer_gone-released : store_size (commit 1 (attach 0 (pos 0) 1 without_buffers)) ≡ 0
unfolding tree applied_tree behaves_synchronised depth descends_from height
row_buffer_gone-released = refl

-- A buffer before the configure was acknowledged is an error that ends the client, and the other's window stays.
abbrev unacknowledged : Desktop
unacknowledged = attach 10 (pos 0) 1 (with_buffers 1 (sent 1 (configured 1 (shown 2 start))))

-- wl_display.error(7, 3, "unconfigured_buffer")
abbrev unconfigured_buffer : List ℕ
unconfigured_buffer = 1 ∷ 0 ∷ 0 ∷ 0 ∷ 0 ∷ 0 ∷ 40 ∷ 0 ∷ 7 ∷ 0 ∷ 0 ∷ 0 ∷ 3 ∷ 0 ∷ 0 ∷ 0 ∷ 20 ∷ 0 ∷ 0 ∷ 0 ∷ codes "unconfigured_buffer" ++ 0 ∷ []

pub row_unconfigured : unsent 1 (commit 1 unacknowledged) ≡ unconfigured_buffer
unfolding tree applied_tree behaves_synchronised depth descends_from height
row_unconfigured = refl

pub row_unconfigured-end : status 1 (commit 1 unacknowledged) ≡ Some (Protocol 7 3)
unfolding tree applied_tree behaves_synchronised depth descends_from height
row_unconfigured-end = refl

pub row_unconfigured-other : corners (commit 1 unacknowledged) ≡ at (pos 0) (pos 0) ∷ []
unfolding tree applied_tree behaves_synchronised depth descends_from height
row_unconfigured-other = refl

pub row_unconfigured-unsent : unsent 2 (commit 1 unacknowledged) ≡ unsent 2 unacknowledged
unfolding tree applied_tree behaves_synchronised depth descends_from height
row_unconfigured-unsent = refl

-- an error of a client that has a window takes it away, and marks it
abbrev wrong : Desktop
wrong = acknowledged 3 1 three

pub row_wrong : corners wrong ≡ at (pos 32) (pos 32) ∷ []
unfolding tree applied_tree behaves_synchronised depth descends_from height
row_wrong = refl

pub row_wrong-marks : marks_at_least three wrong (pos 0) (pos 0) ≡ true
unfolding tree applied_tree behaves_synchronised depth descends_from height
row_wrong-marks = refl

pub row_wrong-beside : marks_at_least three wrong (pos 39) (pos 40) ≡ false
unfolding tree applied_tree behaves_synchronised depth descends_from height
row_wrong-beside = refl

-- xdg_toplevel.set_maximized is answered by another configure
abbrev maximized : Desktop
maximized = asks 1 8 9 [] one

pub row_maximized : unsent 1 maximized ≡ toplevel_configure ++ xdg_configure 2
unfolding tree applied_tree behaves_synchronised depth descends_from height
row_maximized = refl

-- wl_display.error(7, 4, "invalid_serial")
abbrev invalid_serial : List ℕ
invalid_serial = 1 ∷ 0 ∷ 0 ∷ 0 ∷ 0 ∷ 0 ∷ 36 ∷ 0 ∷ 7 ∷ 0 ∷ 0 ∷ 0 ∷ 4 ∷ 0 ∷ 0 ∷ 0 ∷ 15 ∷ 0 ∷ 0 ∷ 0 ∷ codes "invalid_serial" ++ 0 ∷ 0 ∷ []

pub row_invalid_serial : unsent 1 (acknowledged 3 1 (sent 1 maximized)) ≡ invalid_serial
unfolding tree applied_tree behaves_synchronised depth descends_from height
row_invalid_serial = refl

pub row_invalid_serial-end : status 1 (acknowledged 3 1 maximized) ≡ Some (Protocol 7 4)
unfolding tree applied_tree behaves_synchronised depth descends_from height
row_invalid_serial-end = refl

-- a null buffer unmaps the surface, and the next commit is a first one again
abbrev unmapped : Desktop
unmapped = commit 1 (attach 0 (pos 0) 1 one)

pub row_unmapped : corners unmapped ≡ []
unfolding tree applied_tree behaves_synchronised depth descends_from height
row_unmapped = refl

pub row_unmapped-marks : marks_at_least one unmapped (pos 39) (pos 39) ≡ true
unfolding tree applied_tree behaves_synchronised depth descends_from height
row_unmapped-marks = refl

pub row_unmapped-marks-beside : marks_at_least one unmapped (pos 40) (pos 0) ≡ false
unfolding tree applied_tree behaves_synchronised depth descends_from height
row_unmapped-marks-beside = refl

pub row_unmapped-configure : unsent 1 (commit 1 unmapped) ≡ buffer_release ++ toplevel_configure ++ xdg_configure 2
unfolding tree applied_tree behaves_synchronised depth descends_from height
row_unmapped-configure = refl

-- mapped again it takes the next place
pub row_mapped_again : corners (commit 1 (attach 10 (pos 0) 1 (acknowledged 2 1 (commit 1 unmapped)))) ≡ at (pos 32) (pos 32) ∷ []
unfolding tree applied_tree behaves_synchronised depth descends_from height
row_mapped_again = refl

-- an attach with an offset moves the window, and marks its old and its new place
abbrev pub moved : Desktop
moved = commit 1 (attach 11 (pos 3) 1 one)

pub row_moved : corners moved ≡ at (pos 3) (pos 0) ∷ []
unfolding tree applied_tree behaves_synchronised depth descends_from height
row_moved = refl

pub row_moved-old : marks_at_least one moved (pos 0) (pos 0) ≡ true
unfolding tree applied_tree behaves_synchronised depth descends_from height
row_moved-old = refl

pub row_moved-new : marks_at_least one moved (pos 42) (pos 39) ≡ true
unfolding tree applied_tree behaves_synchronised depth descends_from height
row_moved-new = refl

pub row_moved-beside : marks_at_least one moved (pos 43) (pos 0) ≡ false
unfolding tree applied_tree behaves_synchronised depth descends_from height
row_moved-beside = refl

-- an offset is held within the bounds
pub row_held : corners (commit 1 (attach 10 (negsuc 16777215) 1 (commit 1 (attach 11 (pos 2147483647) 1 one)))) ≡ at (pos 0) (pos 0) ∷ []
unfolding tree applied_tree behaves_synchronised depth descends_from height
row_held = refl

-- damage outside the surface is none; one row of it is
abbrev damaged : ℤ → ℤ → ℤ → ℤ → Desktop
damaged x y w h = commit 1 (damage x y w h 1 one)

pub row_damage_outside : marks_at_least one (damaged (negsuc 2147483647) (pos 0) (pos 2147483647) (pos 2147483647)) (pos 0) (pos 0) ≡ false
unfolding tree applied_tree behaves_synchronised depth descends_from height
row_damage_outside = refl

pub row_damage_row : marks_at_least one (damaged (pos 0) (pos 0) (pos 2147483647) (pos 1)) (pos 39) (pos 0) ≡ true
unfolding tree applied_tree behaves_synchronised depth descends_from height
row_damage_row = refl

pub row_damage_row-below : marks_at_least one (damaged (pos 0) (pos 0) (pos 2147483647) (pos 1)) (pos 39) (pos 1) ≡ false
unfolding tree applied_tree behaves_synchronised depth descends_from height
row_damage_row-below = refl

-- another transform marks the whole window
pub row_turned : marks_at_least one (commit 1 (asks 1 6 7 (Number (pos 1) ∷ []) one)) (pos 39) (pos 39) ≡ true
unfolding tree applied_tree behaves_synchronised depth descends_from height
row_turned = refl

-- xdg_toplevel.destroy takes the window away, and the surface keeps what it shows
abbrev without_toplevel : Desktop
without_toplevel = asks 1 8 0 [] one

pub row_toplevel_gone : corners without_toplevel ≡ []
unfolding tree applied_tree behaves_synchronised depth descends_from height
row_toplevel_gone = refl

pub row_toplevel_gone-unsent : unsent 1 without_toplevel ≡ delete_id 8
unfolding tree applied_tree behaves_synchronised depth descends_from height
row_toplevel_gone-unsent = refl

-- a surface whose xdg_surface lives is not destroyed, nor that before its role object
pub row_surface_kept : status 1 (asks 1 6 0 [] without_toplevel) ≡ Some (Protocol 6 4)
unfolding tree applied_tree behaves_synchronised depth descends_from height
row_surface_kept = refl

pub row_xdg_surface_kept : status 1 (asks 1 7 0 [] one) ≡ Some (Protocol 7 6)
unfolding tree applied_tree behaves_synchronised depth descends_from height
row_xdg_surface_kept = refl

pub row_base_kept : status 1 (asks 1 5 0 [] one) ≡ Some (Protocol 5 1)
unfolding tree applied_tree behaves_synchronised depth descends_from height
row_base_kept = refl

pub row_all_gone : unsent 1 (asks 1 5 0 [] (asks 1 6 0 [] (asks 1 7 0 [] (sent 1 without_toplevel)))) ≡ delete_id 7 ++ delete_id 6 ++ buffer_release ++ delete_id 5
unfolding tree applied_tree behaves_synchronised depth descends_from height
row_all_gone = refl

-- a surface has one xdg_surface, and one with a buffer gets none
pub row_configured_surface : status 1 (asks 1 5 2 (Word 12 ∷ Word 6 ∷ []) one) ≡ Some (Protocol 5 0)
unfolding tree applied_tree behaves_synchronised depth descends_from height
row_configured_surface = refl

pub row_shown_surface : status 1 (asks 1 5 2 (Word 12 ∷ Word 6 ∷ []) (asks 1 7 0 [] without_toplevel)) ≡ Some (Protocol 5 4)
unfolding tree applied_tree behaves_synchronised depth descends_from height
row_shown_surface = refl

pub row_not_constructed : status 1 (acknowledged 1 1 (asks 1 5 2 (Word 7 ∷ Word 6 ∷ []) (asks 1 3 0 (Word 6 ∷ []) (with_globals 1 start)))) ≡ Some (Protocol 7 1)
unfolding tree applied_tree behaves_synchronised depth descends_from height
row_not_constructed = refl

pub row_already_constructed : status 1 (asks 1 7 1 (Word 12 ∷ []) one) ≡ Some (Protocol 7 2)
unfolding tree applied_tree behaves_synchronised depth descends_from height
row_already_constructed = refl

pub row_invalid_size : status 1 (asks 1 7 3 (Number (pos 0) ∷ Number (pos 0) ∷ Number (pos 0) ∷ Number (pos 4) ∷ []) one) ≡ Some (Protocol 7 5)
unfolding tree applied_tree behaves_synchronised depth descends_from height
row_invalid_size = refl

pub row_invalid_transform : status 1 (asks 1 6 7 (Number (pos 8) ∷ []) one) ≡ Some (Protocol 6 1)
unfolding tree applied_tree behaves_synchronised depth descends_from height
row_invalid_transform = refl

-- a frame callback
pub row_frame : status 1 (asks 1 6 3 (Word 12 ∷ []) one) ≡ None
unfolding tree applied_tree behaves_synchronised depth descends_from height
row_frame = refl

-- after its new id
pub row_frame_in_use : status 1 (asks 1 6 3 (Word 6 ∷ []) one) ≡ Some (Protocol 1 0)
unfolding tree applied_tree behaves_synchronised depth descends_from height
row_frame_in_use = refl

-- a client with so many surfaces may make another one, or not
abbrev crowded : ℕ → Resident
crowded n =
    record (arrival (record { width = 64; height = 64 })) {
      owned = record { surfaces = record { surfaces = replicate n (record { id = 6; history = record { requests = []; cut = 0 }; role = None }); links = [] }; shell = [] };
    }

pub row_surface_256 : surface_created (crowded 255) 12 2 ≡ Ok (CreateSurface 12 2)
unfolding tree applied_tree behaves_synchronised depth descends_from height
row_surface_256 = refl

pub row_surface_257 : surface_created (crowded 256) 12 2 ≡ refuse_limit
unfolding tree applied_tree behaves_synchronised depth descends_from height
row_surface_257 = refl

-- an xdg_surface whose toplevel waits with so many configures may be configured again, or not
abbrev waiting : ℕ → XdgSurface
waiting n =
    record {
      id = 7;
      base = 5;
      surface = 6;
      role = Some (record { id = 8; kind = Toplevel; stage = Waiting });
      configures = replicate n (record { serial = 1; placement = None });
      since = 0;
    }

pub row_configure_64 : configured_again (waiting 63) ≡ Ok (ConfigureAgain 7)
unfolding tree applied_tree behaves_synchronised depth descends_from height
row_configure_64 = refl

pub row_configure_65 : configured_again (waiting 64) ≡ refuse_limit
unfolding tree applied_tree behaves_synchronised depth descends_from height
row_configure_65 = refl
