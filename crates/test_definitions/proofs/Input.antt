-- Worked recordings of what the pointer meets, and of callbacks, computed on the definitions.
use Rattle.std.proofs.Common.{◌≡◌, ℕ, zero, suc, ◌+◌, [], ◌∷◌, ◌++◌, Some, refl}
use Rattle.std.specs.Prelude.{pos, negsuc, codes}
use Rattle.wl_wire.specs.Wire.{Word, Number}
use Rattle.spec_desktop.specs.declared.cause.Cause.TheVariants.{Protocol}
use Rattle.wl_surface.specs.Trees.{applied_tree, behaves_synchronised, depth, descends_from, height}
use Rattle.spec_desktop.specs.Windows.{tree}
use Rattle.spec_desktop.specs.Desktop.{Desktop}
use Rattle.spec_desktop.specs.Popups.{geometry_corner_at}
use Rattle.test_definitions.proofs.Steps.{acknowledge, asks, at, attach, bind, button, commit, corners, create_surface, delete_id, done, enter, event, leave, motion, moved, press, release, sent, shown, start}
use Rattle.test_definitions.proofs.Steps.{status, tick, u32, unsent, with_pointer}
use Rattle.test_definitions.proofs.Subsurfaces.{first}
use Rattle.test_definitions.proofs.Pointer.{both, entered, moving, on_popup, pointed_at, pressed}

-- ---- regions are copied when they are set, and count when they are committed

abbrev region_set : Desktop
region_set =
    asks 1 14 0 [] (asks 1 6 5 (Word 14 ∷ []) (asks 1 6 4 (Word 14 ∷ [])
    (asks 1 14 1 (Number (pos 0) ∷ Number (pos 0) ∷ Number (pos 4) ∷ Number (pos 4) ∷ []) (asks 1 3 1 (Word 14 ∷ []) pointed_at))))

pub row_region_set : unsent 1 region_set ≡ delete_id 14
unfolding tree applied_tree behaves_synchronised
row_region_set = refl

abbrev with_region : Desktop
with_region = motion 1 (pos 5) (pos 5) (commit 1 6 (sent 1 region_set))

pub row_with_region : unsent 1 with_region ≡ []
unfolding tree applied_tree behaves_synchronised
row_with_region = refl

pub row_with_region-inside : unsent 1 (motion 2 (pos 3) (pos 3) with_region) ≡ enter 13 2 6 3 3
unfolding tree applied_tree behaves_synchronised
row_with_region-inside = refl

-- ---- the pointer is held within the output, and each wl_pointer is told, in rising order, with one serial

pub row_within : unsent 1 (motion 1 (negsuc 4) (pos 5) pointed_at) ≡ enter 13 2 6 0 5
unfolding tree applied_tree behaves_synchronised
row_within = refl

abbrev pointers : Desktop
pointers = asks 1 12 0 (Word 15 ∷ []) (asks 1 12 0 (Word 20 ∷ []) pointed_at)

pub row_pointers : unsent 1 (motion 1 (pos 5) (pos 5) pointers) ≡ enter 13 2 6 5 5 ++ enter 15 2 6 5 5 ++ enter 20 2 6 5 5
unfolding tree applied_tree behaves_synchronised
row_pointers = refl

-- a new one of the client that has the focus is told at once
pub row_pointers-new : unsent 1 (asks 1 12 0 (Word 20 ∷ []) (sent 1 entered)) ≡ enter 20 3 6 5 5
unfolding tree applied_tree behaves_synchronised
row_pointers-new = refl

pub row_pointers-held : unsent 1 (asks 1 12 0 (Word 20 ∷ []) (sent 1 pressed)) ≡ enter 20 4 6 5 5
unfolding tree applied_tree behaves_synchronised
row_pointers-held = refl

pub row_pointers-same : unsent 1 (motion 11 (pos 5) (pos 5) (sent 1 entered)) ≡ moved 13 11 5 5
unfolding tree applied_tree behaves_synchronised
row_pointers-same = refl

-- at most 16 buttons are down, and only what is down is released
abbrev presses : ℕ → Desktop → Desktop
presses zero d = d
presses (suc n) d = press 1 (300 + n) (presses n d)

pub row_presses : unsent 1 (press 2 272 (sent 1 (presses 15 (sent 1 entered)))) ≡ button 13 18 2 1
unfolding tree applied_tree behaves_synchronised
row_presses = refl

pub row_presses-17 : unsent 1 (press 2 272 (sent 1 (presses 16 (sent 1 entered)))) ≡ []
unfolding tree applied_tree behaves_synchronised
row_presses-17 = refl

pub row_presses-again : unsent 1 (press 12 272 (sent 1 pressed)) ≡ []
unfolding tree applied_tree behaves_synchronised
row_presses-again = refl

pub row_presses-release : unsent 1 (release 12 273 (sent 1 pressed)) ≡ []
unfolding tree applied_tree behaves_synchronised
row_presses-release = refl

-- ---- xdg_toplevel.move

-- by another serial nothing moves
pub row_move-serial : corners (motion 12 (pos 6) (pos 5) (asks 1 8 5 (Word 12 ∷ Word 2 ∷ []) pressed)) ≡ at (pos 0) (pos 0) ∷ []
unfolding tree applied_tree behaves_synchronised
row_move-serial = refl

-- nor where the focus is in a popup
abbrev popup_moving : Desktop
popup_moving = asks 2 8 5 (Word 12 ∷ Word 8 ∷ []) (press 5 272 on_popup)

pub row_move-popup : corners (motion 6 (pos 20) (pos 20) popup_moving) ≡ at (pos 0) (pos 0) ∷ at (pos 32) (pos 32) ∷ at (pos 8) (pos 8) ∷ []
unfolding tree applied_tree behaves_synchronised geometry_corner_at
row_move-popup = refl

-- the window moves until the last release
pub row_move-released : corners (motion 14 (pos 20) (pos 20) (release 13 272 (motion 12 (pos 6) (pos 5) moving))) ≡ at (pos 1) (pos 0) ∷ []
unfolding tree applied_tree behaves_synchronised
row_move-released = refl

pub row_move-told : unsent 1 (release 13 272 (motion 12 (pos 6) (pos 5) moving)) ≡ button 13 4 13 0
unfolding tree applied_tree behaves_synchronised
row_move-told = refl

-- or until it is unmapped, and isn't taken up again
abbrev move_unmapped : Desktop
move_unmapped = commit 1 6 (attach 1 6 0 moving)

pub row_move_unmapped : unsent 1 move_unmapped ≡ event 10 0 8 [] ++ leave 13 4 6
unfolding tree applied_tree behaves_synchronised
row_move_unmapped = refl

abbrev move_mapped : Desktop
move_mapped = sent 1 (commit 1 6 (attach 1 6 10 (acknowledge 1 7 5 (commit 1 6 move_unmapped))))

pub row_move_mapped : corners (motion 14 (pos 45) (pos 45) move_mapped) ≡ at (pos 32) (pos 32) ∷ []
unfolding tree applied_tree behaves_synchronised
row_move_mapped = refl

pub row_move_mapped-told : unsent 1 (motion 14 (pos 45) (pos 45) move_mapped) ≡ []
unfolding tree applied_tree behaves_synchronised
row_move_mapped-told = refl

pub row_move_mapped-entered : unsent 1 (release 15 272 (motion 14 (pos 45) (pos 45) move_mapped)) ≡ enter 13 6 6 13 13
unfolding tree applied_tree behaves_synchronised
row_move_mapped-entered = refl

-- ---- a press while a button is down raises the window below the pointer, and is told to the focus

abbrev held : Desktop
held = motion 3 (pos 45) (pos 45) (press 2 272 (motion 1 (pos 5) (pos 5) both))

pub row_held : corners held ≡ at (pos 32) (pos 32) ∷ at (pos 0) (pos 0) ∷ []
unfolding tree applied_tree behaves_synchronised
row_held = refl

abbrev held_pressed : Desktop
held_pressed = press 4 273 (sent 1 held)

pub row_held_pressed : corners held_pressed ≡ at (pos 0) (pos 0) ∷ at (pos 32) (pos 32) ∷ []
unfolding tree applied_tree behaves_synchronised
row_held_pressed = refl

pub row_held_pressed-told : unsent 1 held_pressed ≡ event 13 3 24 (u32 4 ++ u32 4 ++ 17 ∷ 1 ∷ 0 ∷ 0 ∷ u32 1)
unfolding tree applied_tree behaves_synchronised
row_held_pressed-told = refl

pub row_held_pressed-other : unsent 2 held_pressed ≡ []
unfolding tree applied_tree behaves_synchronised
row_held_pressed-other = refl

-- ---- a client that has the focus ends

abbrev over_both : Desktop
over_both = motion 1 (pos 35) (pos 35) both

pub row_over_both : unsent 2 over_both ≡ enter 13 2 6 3 3
unfolding tree applied_tree behaves_synchronised
row_over_both = refl

-- wl_display.error(1, 0, "invalid_object")
abbrev errs : Desktop → Desktop
errs d = asks 2 99 0 [] d

pub row_errs : unsent 2 (errs (sent 2 over_both)) ≡ event 1 0 36 (u32 1 ++ u32 0 ++ u32 15 ++ codes "invalid_object" ++ 0 ∷ 0 ∷ [])
unfolding tree applied_tree behaves_synchronised
row_errs = refl

pub row_errs-end : status 2 (errs over_both) ≡ Some (Protocol 1 0)
unfolding tree applied_tree behaves_synchronised
row_errs-end = refl

pub row_errs-other : unsent 1 (errs over_both) ≡ enter 13 2 6 35 35
unfolding tree applied_tree behaves_synchronised
row_errs-other = refl

-- with a button down nothing has the focus until the release
pub row_errs-held : unsent 1 (errs (press 2 272 over_both)) ≡ []
unfolding tree applied_tree behaves_synchronised
row_errs-held = refl

pub row_errs-released : unsent 1 (release 3 272 (errs (press 2 272 over_both))) ≡ enter 13 2 6 35 35
unfolding tree applied_tree behaves_synchronised
row_errs-released = refl

-- ---- a client without a wl_pointer is told nothing, and nothing begins a move of it

abbrev seated : Desktop
seated = press 2 272 (motion 1 (pos 5) (pos 5) (sent 1 (bind 1 5 (codes "wl_seat") 1 12 (shown 1 start))))

pub row_seated : unsent 1 seated ≡ []
unfolding tree applied_tree behaves_synchronised
row_seated = refl

pub row_seated-move : corners (motion 3 (pos 6) (pos 5) (asks 1 8 5 (Word 12 ∷ Word 2 ∷ []) seated)) ≡ at (pos 0) (pos 0) ∷ []
unfolding tree applied_tree behaves_synchronised
row_seated-move = refl

-- and draws no serial
pub row_seated-pointer : unsent 1 (asks 1 12 0 (Word 13 ∷ []) seated) ≡ enter 13 2 6 5 5
unfolding tree applied_tree behaves_synchronised
row_seated-pointer = refl

-- ---- frame callbacks: in the order of their requests, and given back with their surface

abbrev two_frames : Desktop
two_frames =
    commit 1 14 (commit 1 6 (asks 1 6 3 (Word 22 ∷ []) (asks 1 14 3 (Word 23 ∷ []) (create_surface 1 14 (shown 1 start)))))

pub row_two_frames : unsent 1 (tick 9 two_frames) ≡ done 23 9 ++ delete_id 23 ++ done 22 9 ++ delete_id 22
unfolding tree applied_tree behaves_synchronised
row_two_frames = refl

pub row_two_frames-once : unsent 1 (tick 10 (sent 1 (tick 9 two_frames))) ≡ []
unfolding tree applied_tree behaves_synchronised
row_two_frames-once = refl

pub row_frames_gone : unsent 1 (asks 1 14 0 [] (asks 1 14 3 (Word 21 ∷ []) two_frames)) ≡ delete_id 14 ++ delete_id 23 ++ delete_id 21
unfolding tree applied_tree behaves_synchronised
row_frames_gone = refl

-- ---- a button before the pointer is anywhere

abbrev before : Desktop
before = motion 2 (pos 5) (pos 5) (press 1 272 pointed_at)

pub row_before : unsent 1 before ≡ []
unfolding tree applied_tree behaves_synchronised
row_before = refl

pub row_before-released : unsent 1 (release 3 272 before) ≡ enter 13 2 6 5 5
unfolding tree applied_tree behaves_synchronised
row_before-released = refl

-- ---- a subsurface has the focus

abbrev on_child : Desktop
on_child = motion 1 (pos 5) (pos 5) (sent 1 (with_pointer 1 first))

pub row_on_child : unsent 1 on_child ≡ enter 13 2 14 1 1
unfolding tree applied_tree behaves_synchronised depth descends_from height
row_on_child = refl

-- it isn't left once it is destroyed
pub row_on_child-destroyed : unsent 1 (asks 1 14 0 [] (sent 1 on_child)) ≡ delete_id 14 ++ event 18 0 8 [] ++ enter 13 3 6 5 5
unfolding tree applied_tree behaves_synchronised depth descends_from height
row_on_child-destroyed = refl

-- it is left where its link ends
pub row_on_child-unlinked : unsent 1 (asks 1 16 0 [] (sent 1 on_child)) ≡ delete_id 16 ++ leave 13 3 14 ++ enter 13 4 6 5 5
unfolding tree applied_tree behaves_synchronised depth descends_from height
row_on_child-unlinked = refl

-- a press raises its toplevel, which moves by it, also when nothing has the focus any more
pub row_on_child-pressed : unsent 1 (press 2 272 (sent 1 on_child)) ≡ button 13 3 2 1
unfolding tree applied_tree behaves_synchronised depth descends_from height
row_on_child-pressed = refl

abbrev child_moving : Desktop
child_moving = asks 1 16 0 [] (asks 1 8 5 (Word 12 ∷ Word 3 ∷ []) (sent 1 (press 2 272 on_child)))

pub row_child_moving : unsent 1 child_moving ≡ delete_id 16 ++ leave 13 4 14
unfolding tree applied_tree behaves_synchronised depth descends_from height
row_child_moving = refl

pub row_child_moving-corner : corners (motion 3 (pos 6) (pos 5) child_moving) ≡ at (pos 1) (pos 0) ∷ []
unfolding tree applied_tree behaves_synchronised depth descends_from height
row_child_moving-corner = refl

pub row_child_moving-silent : unsent 1 (motion 3 (pos 6) (pos 5) (sent 1 child_moving)) ≡ []
unfolding tree applied_tree behaves_synchronised depth descends_from height
row_child_moving-silent = refl
