-- Worked recordings with subsurfaces, computed on the definitions.
use Rattle.std.proofs.Common.{◌≡◌, [], ◌∷◌, ◌++◌, None, refl}
use Rattle.std.specs.Prelude.{pos, codes}
use Rattle.wl_wire.specs.Wire.{Word, Number}
use Rattle.wl_surface.specs.Trees.{applied_tree, behaves_synchronised, depth, descends_from, height}
use Rattle.spec_desktop.specs.Windows.{tree}
use Rattle.spec_desktop.specs.Desktop.{Desktop}
use Rattle.test_definitions.proofs.Steps.{asks, at, attach, bind, black, buffer_release, color, commit, corners, create_buffer, create_surface, damage, delete_id, done, green, red, sent, shown, start, status}
use Rattle.test_definitions.proofs.Steps.{stores, tick, unsent}

-- a subsurface 16, surface 14, at (4, 4) of the surface 6
abbrev pub subsurface_on : Desktop → Desktop
subsurface_on d =
    asks 1 16 1 (Number (pos 4) ∷ Number (pos 4) ∷ []) (asks 1 15 1 (Word 16 ∷ Word 14 ∷ Word 6 ∷ [])
    (create_surface 1 14 (bind 1 2 (codes "wl_subcompositor") 1 15 d)))

-- a window of 40 by 40 pixels with one of 4 by 4, and its buffers 18, 19 and 20
abbrev pub with_subsurface : Desktop
with_subsurface = subsurface_on (shown 1 start)

abbrev with_buffers : Desktop
with_buffers =
    create_buffer 1 17 20 128 4 (create_buffer 1 17 19 64 4 (create_buffer 1 17 18 0 4 (asks 1 4 0 (Word 17 ∷ Number (pos 192) ∷ []) with_subsurface)))

-- the second and the third begin with a red pixel, and the third ends with a green one
abbrev colored : Desktop
colored = stores 2 188 (0 ∷ 255 ∷ 0 ∷ 0 ∷ []) 1 (stores 2 128 (0 ∷ 0 ∷ 255 ∷ 0 ∷ []) 1 (stores 2 64 (0 ∷ 0 ∷ 255 ∷ 0 ∷ []) 1 with_buffers))

-- it shows the first once its parent is committed
abbrev pub child : Desktop
child = commit 1 14 (attach 1 14 18 colored)

pub row_child : corners child ≡ at (pos 0) (pos 0) ∷ []
unfolding tree applied_tree behaves_synchronised depth descends_from height
row_child = refl

abbrev pub first : Desktop
first = commit 1 6 child

pub row_first : corners first ≡ at (pos 0) (pos 0) ∷ at (pos 4) (pos 4) ∷ []
unfolding tree applied_tree behaves_synchronised depth descends_from height
row_first = refl

pub row_first-unanswered : unsent 1 first ≡ []
unfolding tree applied_tree behaves_synchronised depth descends_from height
row_first-unanswered = refl

pub row_first-black : color first (pos 4) (pos 4) ≡ black
unfolding tree applied_tree behaves_synchronised depth descends_from height
row_first-black = refl

-- its commits are held: of two the first one's buffer is free at once
abbrev pub second : Desktop
second = commit 1 14 (damage 1 14 (pos 0) (pos 0) (pos 1) (pos 1) (attach 1 14 19 first))

pub row_second : unsent 1 second ≡ []
unfolding tree applied_tree behaves_synchronised depth descends_from height
row_second = refl

abbrev pub third : Desktop
third = commit 1 14 (damage 1 14 (pos 3) (pos 3) (pos 1) (pos 1) (attach 1 14 20 second))

pub row_third : unsent 1 third ≡ buffer_release 19
unfolding tree applied_tree behaves_synchronised depth descends_from height
row_third = refl

pub row_third-black : color third (pos 4) (pos 4) ≡ black
unfolding tree applied_tree behaves_synchronised depth descends_from height
row_third-black = refl

abbrev pub applied : Desktop
applied = commit 1 6 (sent 1 third)

pub row_applied : unsent 1 applied ≡ buffer_release 18
unfolding tree applied_tree behaves_synchronised depth descends_from height
row_applied = refl

pub row_applied-red : color applied (pos 4) (pos 4) ≡ red
unfolding tree applied_tree behaves_synchronised depth descends_from height
row_applied-red = refl

pub row_applied-green : color applied (pos 7) (pos 7) ≡ green
unfolding tree applied_tree behaves_synchronised depth descends_from height
row_applied-green = refl

-- ---- set_desync applies what was held

abbrev pub desynchronised : Desktop
desynchronised = asks 1 16 5 [] second

pub row_desynchronised : unsent 1 desynchronised ≡ buffer_release 18
unfolding tree applied_tree behaves_synchronised depth descends_from height
row_desynchronised = refl

pub row_desynchronised-red : color desynchronised (pos 4) (pos 4) ≡ red
unfolding tree applied_tree behaves_synchronised depth descends_from height
row_desynchronised-red = refl

-- ---- below its parent it isn't seen

abbrev pub below : Desktop
below = commit 1 6 (asks 1 16 3 (Word 6 ∷ []) applied)

pub row_below : corners below ≡ at (pos 4) (pos 4) ∷ at (pos 0) (pos 0) ∷ []
unfolding tree applied_tree behaves_synchronised depth descends_from height
row_below = refl

pub row_below-red : color below (pos 4) (pos 4) ≡ black
unfolding tree applied_tree behaves_synchronised depth descends_from height
row_below-red = refl

pub row_below-green : color below (pos 7) (pos 7) ≡ black
unfolding tree applied_tree behaves_synchronised depth descends_from height
row_below-green = refl

-- ---- wl_subsurface.destroy unmaps it, and its surface is one of its own

abbrev pub unlinked : Desktop
unlinked = asks 1 16 0 [] (sent 1 applied)

pub row_unlinked : unsent 1 unlinked ≡ delete_id 16
unfolding tree applied_tree behaves_synchronised depth descends_from height
row_unlinked = refl

pub row_unlinked-windows : corners unlinked ≡ at (pos 0) (pos 0) ∷ []
unfolding tree applied_tree behaves_synchronised depth descends_from height
row_unlinked-windows = refl

pub row_unlinked-black : color unlinked (pos 4) (pos 4) ≡ black
unfolding tree applied_tree behaves_synchronised depth descends_from height
row_unlinked-black = refl

pub row_unlinked-release : unsent 1 (commit 1 14 (attach 1 14 0 (sent 1 unlinked))) ≡ buffer_release 20
unfolding tree applied_tree behaves_synchronised depth descends_from height
row_unlinked-release = refl

-- ---- a frame callback of the parent, and then both go

abbrev placed : Desktop
placed = asks 1 16 4 [] (asks 1 16 2 (Word 6 ∷ []) (asks 1 16 3 (Word 6 ∷ []) (sent 1 applied)))

abbrev framed : Desktop
framed = commit 1 6 (asks 1 6 3 (Word 21 ∷ []) placed)

pub row_framed : unsent 1 framed ≡ []
unfolding tree applied_tree behaves_synchronised depth descends_from height
row_framed = refl

pub row_framed-windows : corners framed ≡ at (pos 0) (pos 0) ∷ at (pos 4) (pos 4) ∷ []
unfolding tree applied_tree behaves_synchronised depth descends_from height
row_framed-windows = refl

pub row_framed-tick : unsent 1 (tick 9 framed) ≡ done 21 9 ++ delete_id 21
unfolding tree applied_tree behaves_synchronised depth descends_from height
row_framed-tick = refl

abbrev without_subsurface : Desktop
without_subsurface = asks 1 16 0 [] framed

pub row_without_subsurface : unsent 1 without_subsurface ≡ delete_id 16
unfolding tree applied_tree behaves_synchronised depth descends_from height
row_without_subsurface = refl

pub row_without_surface : unsent 1 (asks 1 14 0 [] (sent 1 without_subsurface)) ≡ delete_id 14 ++ buffer_release 20
unfolding tree applied_tree behaves_synchronised depth descends_from height
row_without_surface = refl

-- ---- what is held goes on: a frame callback, and releases in rising order

abbrev held_frame : Desktop
held_frame = commit 1 14 (asks 1 14 3 (Word 21 ∷ []) first)

pub row_held_frame : unsent 1 (tick 8 held_frame) ≡ []
unfolding tree applied_tree behaves_synchronised depth descends_from height
row_held_frame = refl

-- a later held commit adds its own
pub row_held_frames : unsent 1 (tick 9 (commit 1 6 (commit 1 14 (asks 1 14 3 (Word 22 ∷ []) held_frame)))) ≡ done 21 9 ++ delete_id 21 ++ done 22 9 ++ delete_id 22
unfolding tree applied_tree behaves_synchronised depth descends_from height
row_held_frames = refl

-- set_desync applies it, and a wl_subsurface that goes
pub row_held_frame-desynchronised : unsent 1 (tick 9 (asks 1 16 5 [] held_frame)) ≡ done 21 9 ++ delete_id 21
unfolding tree applied_tree behaves_synchronised depth descends_from height
row_held_frame-desynchronised = refl

pub row_held_frame-unlinked : unsent 1 (tick 9 (sent 1 (asks 1 16 0 [] held_frame))) ≡ done 21 9 ++ delete_id 21
unfolding tree applied_tree behaves_synchronised depth descends_from height
row_held_frame-unlinked = refl

abbrev exchanged : Desktop
exchanged = commit 1 6 (attach 1 6 11 (commit 1 14 (attach 1 14 10 first)))

pub row_exchanged : unsent 1 exchanged ≡ buffer_release 18
unfolding tree applied_tree behaves_synchronised depth descends_from height
row_exchanged = refl

pub row_exchanged-both : unsent 1 (commit 1 6 (attach 1 6 19 (commit 1 14 (attach 1 14 18 (sent 1 exchanged))))) ≡ buffer_release 10 ++ buffer_release 11
unfolding tree applied_tree behaves_synchronised depth descends_from height
row_exchanged-both = refl

-- a buffer whose wl_buffer is gone gets no release, even if its id is another's now
pub row_exchanged-gone : unsent 1 (commit 1 14 (attach 1 14 0 (sent 1 (create_buffer 1 17 10 0 4 (asks 1 10 0 [] (asks 1 16 5 [] exchanged)))))) ≡ []
unfolding tree applied_tree behaves_synchronised depth descends_from height
row_exchanged-gone = refl

-- ---- with a held commit, the wl_subsurface goes, or the surface

pub row_second-unlinked : unsent 1 (asks 1 16 0 [] second) ≡ delete_id 16 ++ buffer_release 18
unfolding tree applied_tree behaves_synchronised depth descends_from height
row_second-unlinked = refl

abbrev without_child : Desktop
without_child = asks 1 14 0 [] second

pub row_second-gone : unsent 1 without_child ≡ delete_id 14 ++ buffer_release 18 ++ buffer_release 19
unfolding tree applied_tree behaves_synchronised depth descends_from height
row_second-gone = refl

-- its wl_subsurface does nothing, and a new surface of that id may be one
pub row_second-inert : unsent 1 (asks 1 16 0 [] (asks 1 16 1 (Number (pos 1) ∷ Number (pos 1) ∷ []) (asks 1 16 2 (Word 6 ∷ []) (sent 1 without_child)))) ≡ delete_id 16
unfolding tree applied_tree behaves_synchronised depth descends_from height
row_second-inert = refl

pub row_second-again : status 1 (asks 1 15 1 (Word 21 ∷ Word 14 ∷ Word 6 ∷ []) (create_surface 1 14 without_child)) ≡ None
unfolding tree applied_tree behaves_synchronised depth descends_from height
row_second-again = refl

-- ---- a subsurface of the subsurface

abbrev grandchild : Desktop
grandchild =
    commit 1 24 (attach 1 24 19 (asks 1 25 5 [] (asks 1 25 1 (Number (pos 1) ∷ Number (pos 2) ∷ [])
    (asks 1 15 1 (Word 25 ∷ Word 24 ∷ Word 14 ∷ []) (create_surface 1 24 first)))))

-- it behaves synchronised, since the one above it is
pub row_grandchild : corners grandchild ≡ at (pos 0) (pos 0) ∷ at (pos 4) (pos 4) ∷ []
unfolding tree applied_tree behaves_synchronised depth descends_from height
row_grandchild = refl

-- the child's state counts with a commit of the window, and so does that below it
pub row_grandchild-held : corners (commit 1 14 grandchild) ≡ at (pos 0) (pos 0) ∷ at (pos 4) (pos 4) ∷ []
unfolding tree applied_tree behaves_synchronised depth descends_from height
row_grandchild-held = refl

pub row_grandchild-shown : corners (commit 1 6 (commit 1 14 grandchild)) ≡ at (pos 0) (pos 0) ∷ at (pos 4) (pos 4) ∷ at (pos 5) (pos 6) ∷ []
unfolding tree applied_tree behaves_synchronised depth descends_from height
row_grandchild-shown = refl

-- a null buffer of the child hides both
pub row_grandchild-hidden : corners (commit 1 6 (commit 1 14 (attach 1 14 0 (commit 1 6 (commit 1 14 grandchild))))) ≡ at (pos 0) (pos 0) ∷ []
unfolding tree applied_tree behaves_synchronised depth descends_from height
row_grandchild-hidden = refl
