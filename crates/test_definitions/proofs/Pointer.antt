-- Worked recordings with the pointer, computed on the definitions.
use Rattle.std.proofs.Common.{◌≡◌, ℕ, zero, suc, List, [], ◌∷◌, ◌++◌, Some, refl}
use Rattle.std.specs.Prelude.{pos, negsuc}
use Rattle.wl_wire.specs.Wire.{Word, Number}
use Rattle.spec_desktop.specs.declared.cause.Cause.TheVariants.{Gone}
use Rattle.wl_surface.specs.Trees.{applied_tree, behaves_synchronised}
use Rattle.spec_desktop.specs.Windows.{tree}
use Rattle.spec_desktop.specs.Desktop.{Desktop}
use Rattle.spec_desktop.specs.Popups.{geometry_corner_at}
use Rattle.test_definitions.proofs.Steps.{acknowledge, asks, at, attach, black, button, buffer_release, color, commit, corners, create_buffer, create_surface, damage, enter, event, get_xdg_surface, leave}
use Rattle.test_definitions.proofs.Steps.{leaves, motion, moved, press, red, release, sent, showing, shown, start, status, stores, u32, unsent, with_pointer, xdg_configure}

-- one window of 40 by 40 pixels in the corner, of a client with a wl_pointer
abbrev pub pointed_at : Desktop
pointed_at = sent 1 (with_pointer 1 (shown 1 start))

-- a motion onto it enters it
abbrev pub entered : Desktop
entered = motion 10 (pos 5) (pos 5) pointed_at

pub row_entered : unsent 1 entered ≡ enter 13 2 6 5 5
unfolding tree applied_tree behaves_synchronised
row_entered = refl

-- a press is told to the focus, which stays on it until the release
abbrev pub pressed : Desktop
pressed = press 11 272 (sent 1 entered)

pub row_pressed : unsent 1 pressed ≡ button 13 3 11 1
unfolding tree applied_tree behaves_synchronised
row_pressed = refl

abbrev outside : Desktop
outside = motion 12 (pos 50) (pos 50) (sent 1 pressed)

pub row_outside : unsent 1 outside ≡ moved 13 12 50 50
unfolding tree applied_tree behaves_synchronised
row_outside = refl

pub row_released : unsent 1 (release 13 272 (sent 1 outside)) ≡ button 13 4 13 0 ++ leave 13 5 6
unfolding tree applied_tree behaves_synchronised
row_released = refl

-- xdg_toplevel.move by the serial of the press: the window moves with the pointer, and nothing is told
abbrev pub moving : Desktop
moving = asks 1 8 5 (Word 12 ∷ Word 3 ∷ []) (sent 1 pressed)

pub row_moving : unsent 1 (motion 12 (pos 6) (pos 5) moving) ≡ []
unfolding tree applied_tree behaves_synchronised
row_moving = refl

pub row_moving-corner : corners (motion 12 (pos 6) (pos 5) moving) ≡ at (pos 1) (pos 0) ∷ []
unfolding tree applied_tree behaves_synchronised
row_moving-corner = refl

-- ---- a popup with a grab

-- the second client's window stands in the next place, above that of the first
abbrev pub both : Desktop
both = sent 2 (with_pointer 2 (shown 2 pointed_at))

abbrev pub both_entered : Desktop
both_entered = motion 1 (pos 45) (pos 45) both

pub row_both_entered : unsent 2 both_entered ≡ enter 13 2 6 13 13
unfolding tree applied_tree behaves_synchronised
row_both_entered = refl

pub row_both_entered-other : unsent 1 both_entered ≡ []
unfolding tree applied_tree behaves_synchronised
row_both_entered-other = refl

abbrev pub both_pressed : Desktop
both_pressed = press 2 272 (sent 2 both_entered)

pub row_both_pressed : unsent 2 both_pressed ≡ button 13 3 2 1
unfolding tree applied_tree behaves_synchronised
row_both_pressed = refl

-- a positioner 16 of 8 by 8 pixels: to the upper left of its parent's corner
abbrev pub with_positioner : Desktop → Desktop
with_positioner d =
    asks 2 16 6 (Number (negsuc 23) ∷ Number (negsuc 23) ∷ [])
    (asks 2 16 4 (Word 8 ∷ []) (asks 2 16 3 (Word 5 ∷ [])
    (asks 2 16 2 (Number (pos 0) ∷ Number (pos 0) ∷ Number (pos 1) ∷ Number (pos 1) ∷ [])
    (asks 2 16 1 (Number (pos 8) ∷ Number (pos 8) ∷ []) (asks 2 5 1 (Word 16 ∷ []) d)))))

-- a popup 17 of the xdg_surface 15 and the surface 14, with a grab by the serial of the press
abbrev grabbing : Desktop
grabbing =
    commit 2 14 (asks 2 17 1 (Word 12 ∷ Word 3 ∷ []) (asks 2 15 2 (Word 17 ∷ Word 7 ∷ Word 16 ∷ [])
    (with_positioner (get_xdg_surface 2 15 14 (create_surface 2 14 (sent 2 both_pressed))))))

-- xdg_popup.configure
abbrev pub minus_24 : List ℕ
minus_24 = 232 ∷ 255 ∷ 255 ∷ 255 ∷ []

pub row_grabbing : unsent 2 grabbing ≡ event 17 0 24 (minus_24 ++ minus_24 ++ u32 8 ++ u32 8) ++ xdg_configure 15 4
unfolding tree applied_tree behaves_synchronised geometry_corner_at
row_grabbing = refl

abbrev pub popped : Desktop
popped = commit 2 14 (attach 2 14 18 (create_buffer 2 9 18 0 8 (acknowledge 2 15 4 (sent 2 grabbing))))

pub row_popped : corners popped ≡ at (pos 0) (pos 0) ∷ at (pos 32) (pos 32) ∷ at (pos 8) (pos 8) ∷ []
unfolding tree applied_tree behaves_synchronised geometry_corner_at
row_popped = refl

pub row_popped-unanswered : unsent 2 popped ≡ []
unfolding tree applied_tree behaves_synchronised geometry_corner_at
row_popped-unanswered = refl

abbrev pub popped_released : Desktop
popped_released = release 3 272 popped

pub row_popped_released : unsent 2 popped_released ≡ button 13 5 3 0
unfolding tree applied_tree behaves_synchronised geometry_corner_at
row_popped_released = refl

abbrev pub on_popup : Desktop
on_popup = motion 4 (pos 10) (pos 10) (sent 2 popped_released)

pub row_on_popup : unsent 2 on_popup ≡ leave 13 6 6 ++ enter 13 7 14 2 2
unfolding tree applied_tree behaves_synchronised geometry_corner_at
row_on_popup = refl

-- the client goes, and the pointer is on the window below
abbrev pub gone : Desktop
gone = leaves 2 on_popup

pub row_gone : unsent 1 gone ≡ enter 13 2 6 10 10
unfolding tree applied_tree behaves_synchronised geometry_corner_at
row_gone = refl

pub row_gone-end : status 2 gone ≡ Some Gone
unfolding tree applied_tree behaves_synchronised geometry_corner_at
row_gone-end = refl

pub row_gone-windows : corners gone ≡ at (pos 0) (pos 0) ∷ []
unfolding tree applied_tree behaves_synchronised geometry_corner_at
row_gone-windows = refl

-- a press beside all windows of the client dismisses the popup
abbrev pub beside : Desktop
beside = motion 4 (pos 50) (pos 5) (sent 2 popped_released)

pub row_beside : unsent 2 beside ≡ leave 13 6 6
unfolding tree applied_tree behaves_synchronised geometry_corner_at
row_beside = refl

abbrev pub dismissed : Desktop
dismissed = press 5 272 (sent 2 beside)

pub row_dismissed : unsent 2 dismissed ≡ event 17 1 8 []
unfolding tree applied_tree behaves_synchronised geometry_corner_at
row_dismissed = refl

pub row_dismissed-windows : corners dismissed ≡ at (pos 0) (pos 0) ∷ at (pos 32) (pos 32) ∷ []
unfolding tree applied_tree behaves_synchronised geometry_corner_at
row_dismissed-windows = refl

-- ---- a press raises a window

-- the first client shows a buffer with red pixels, and the second a green one of 8 by 8 above it
abbrev three_red : List ℕ
three_red = 0 ∷ 0 ∷ 255 ∷ 0 ∷ 0 ∷ 0 ∷ 255 ∷ 0 ∷ 0 ∷ 0 ∷ 255 ∷ 0 ∷ []

abbrev green_pixels : ℕ → List ℕ
green_pixels zero = []
green_pixels (suc n) = 0 ∷ 255 ∷ 0 ∷ 0 ∷ green_pixels n

abbrev reddened : Desktop
reddened = stores 1 12124 three_red 1 (stores 1 11964 three_red 1 (stores 1 11804 three_red 1 (shown 1 start)))

abbrev two : Desktop
two = sent 2 (stores 1 0 (green_pixels 64) 2 (showing 256 8 2 reddened))

abbrev three : Desktop
three = commit 1 6 (damage 1 6 (pos 31) (pos 33) (pos 3) (pos 3) (attach 1 6 11 two))

pub row_three : unsent 1 three ≡ buffer_release 10
unfolding tree applied_tree behaves_synchronised
row_three = refl

pub row_three-green : color three (pos 32) (pos 33) ≡ record { r = 0; g = 255; b = 0 }
unfolding tree applied_tree behaves_synchronised
row_three-green = refl

abbrev pub raising : Desktop
raising = motion 20 (pos 5) (pos 5) (sent 1 (with_pointer 1 three))

pub row_raising : unsent 1 raising ≡ enter 13 2 6 5 5
unfolding tree applied_tree behaves_synchronised
row_raising = refl

abbrev pub raised : Desktop
raised = press 21 272 (sent 1 raising)

pub row_raised : unsent 1 raised ≡ button 13 3 21 1
unfolding tree applied_tree behaves_synchronised
row_raised = refl

pub row_raised-red : color raised (pos 32) (pos 33) ≡ red
unfolding tree applied_tree behaves_synchronised
row_raised-red = refl

pub row_raised-last : color raised (pos 33) (pos 35) ≡ red
unfolding tree applied_tree behaves_synchronised
row_raised-last = refl

pub row_raised-black : color raised (pos 32) (pos 32) ≡ black
unfolding tree applied_tree behaves_synchronised
row_raised-black = refl

pub row_raised-beside : color raised (pos 39) (pos 39) ≡ black
unfolding tree applied_tree behaves_synchronised
row_raised-beside = refl
