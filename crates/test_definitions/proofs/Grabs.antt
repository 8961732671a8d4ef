-- Worked recordings with grabs and dismissed popups, computed on the definitions.
use Rattle.std.proofs.Common.{◌≡◌, ℕ, [], ◌∷◌, ◌++◌, refl}
use Rattle.std.specs.Prelude.{pos, negsuc}
use Rattle.wl_wire.specs.Wire.{Word, Number}
use Rattle.wl_surface.specs.Trees.{applied_tree, behaves_synchronised}
use Rattle.spec_desktop.specs.Windows.{tree}
use Rattle.spec_desktop.specs.Desktop.{Desktop}
use Rattle.spec_desktop.specs.Popups.{geometry_corner_at}
use Rattle.test_definitions.proofs.Steps.{acknowledge, asks, at, attach, buffer_release, button, commit, corners, create_buffer, create_surface, delete_id, enter, event, fixed, get_xdg_surface, leave, motion}
use Rattle.test_definitions.proofs.Steps.{press, release, sent, toplevel_configure, u32, unsent, xdg_configure}
use Rattle.test_definitions.proofs.Pointer.{beside, both, both_pressed, minus_24, on_popup, popped, popped_released, with_positioner}
use Rattle.test_definitions.proofs.Popups.{popped as placed}

-- ---- a press beside all windows, while the popup has the focus and a button is down

-- each of a desktop where the pointer is on the popup
abbrev held : Desktop → Desktop
held d = press 5 272 (sent 2 d)

pub row_held : unsent 2 (held on_popup) ≡ button 13 8 5 1
unfolding tree applied_tree behaves_synchronised geometry_corner_at
row_held = refl

abbrev held_beside : Desktop → Desktop
held_beside d = motion 6 (pos 50) (pos 5) (sent 2 (held d))

pub row_held_beside : unsent 2 (held_beside on_popup) ≡ event 13 2 20 (u32 6 ++ fixed 42 ++ 0 ∷ 253 ∷ 255 ∷ 255 ∷ [])
unfolding tree applied_tree behaves_synchronised geometry_corner_at
row_held_beside = refl

-- the popup is dismissed, its surface is told of the button, and is left
abbrev held_pressed : Desktop → Desktop
held_pressed d = press 7 273 (sent 2 (held_beside d))

pub row_held_pressed : unsent 2 (held_pressed on_popup) ≡ event 17 1 8 [] ++ event 13 3 24 (u32 9 ++ u32 7 ++ 17 ∷ 1 ∷ 0 ∷ 0 ∷ u32 1) ++ leave 13 10 14
unfolding tree applied_tree behaves_synchronised geometry_corner_at
row_held_pressed = refl

pub row_held_pressed-other : unsent 1 (held_pressed on_popup) ≡ []
unfolding tree applied_tree behaves_synchronised geometry_corner_at
row_held_pressed-other = refl

-- then nothing has the focus until the last release
abbrev held_released : Desktop → Desktop
held_released d = release 9 272 (motion 8 (pos 45) (pos 45) (sent 2 (held_pressed d)))

pub row_held_released : unsent 2 (held_released on_popup) ≡ []
unfolding tree applied_tree behaves_synchronised geometry_corner_at
row_held_released = refl

pub row_held_released-last : unsent 2 (release 10 273 (held_released on_popup)) ≡ enter 13 11 6 13 13
unfolding tree applied_tree behaves_synchronised geometry_corner_at
row_held_released-last = refl

-- ---- a popup 33 on the popup 17

abbrev child_of : ℕ → ℕ → Desktop → Desktop
child_of parent serial d =
    asks 2 33 1 (Word 12 ∷ Word serial ∷ []) (asks 2 32 2 (Word 33 ∷ Word parent ∷ Word 16 ∷ []) (get_xdg_surface 2 32 31 (create_surface 2 31 d)))

-- its grab is taken by the serial of the same press
abbrev child : Desktop
child = commit 2 31 (child_of 15 3 popped)

pub row_child : unsent 2 child ≡ event 33 0 24 (minus_24 ++ minus_24 ++ u32 8 ++ u32 8) ++ xdg_configure 32 5
unfolding tree applied_tree behaves_synchronised geometry_corner_at
row_child = refl

abbrev nested : Desktop
nested = commit 2 31 (attach 2 31 18 (acknowledge 2 32 5 (sent 2 child)))

pub row_nested : corners nested ≡ at (pos 0) (pos 0) ∷ at (pos 32) (pos 32) ∷ at (pos 8) (pos 8) ∷ at (negsuc 15) (negsuc 15) ∷ []
unfolding tree applied_tree behaves_synchronised geometry_corner_at
row_nested = refl

abbrev nested_beside : Desktop
nested_beside = motion 4 (pos 50) (pos 5) (release 3 272 nested)

pub row_nested_beside : unsent 2 nested_beside ≡ button 13 6 3 0 ++ leave 13 7 6
unfolding tree applied_tree behaves_synchronised geometry_corner_at
row_nested_beside = refl

-- a press beside dismisses both, the newest first
abbrev nested_dismissed : Desktop
nested_dismissed = press 5 272 (sent 2 nested_beside)

pub row_nested_dismissed : unsent 2 nested_dismissed ≡ event 33 1 8 [] ++ event 17 1 8 []
unfolding tree applied_tree behaves_synchronised geometry_corner_at
row_nested_dismissed = refl

pub row_nested_dismissed-windows : corners nested_dismissed ≡ at (pos 0) (pos 0) ∷ at (pos 32) (pos 32) ∷ []
unfolding tree applied_tree behaves_synchronised geometry_corner_at
row_nested_dismissed-windows = refl

-- and so does xdg_toplevel.destroy, which the pointer's surface is left by
pub row_nested_gone : unsent 2 (asks 2 8 0 [] nested) ≡ delete_id 8 ++ event 33 1 8 [] ++ event 17 1 8 [] ++ leave 13 6 6
unfolding tree applied_tree behaves_synchronised geometry_corner_at
row_nested_gone = refl

-- a popup that goes holds no grab
abbrev nested_destroyed : Desktop
nested_destroyed = asks 2 17 0 [] (asks 2 33 0 [] (sent 2 nested_beside))

pub row_nested_destroyed : unsent 2 nested_destroyed ≡ delete_id 33 ++ delete_id 17
unfolding tree applied_tree behaves_synchronised geometry_corner_at
row_nested_destroyed = refl

pub row_nested_destroyed-press : unsent 2 (press 5 272 (sent 2 nested_destroyed)) ≡ []
unfolding tree applied_tree behaves_synchronised geometry_corner_at
row_nested_destroyed-press = refl

-- nor one that is unmapped, and that of its child goes on
abbrev unmapped : ℕ → Desktop → Desktop
unmapped surface d = commit 2 surface (attach 2 surface 0 d)

pub row_unmapped : unsent 2 (press 5 272 (sent 2 (unmapped 14 beside))) ≡ []
unfolding tree applied_tree behaves_synchronised geometry_corner_at
row_unmapped = refl

pub row_unmapped-child : unsent 2 (press 5 272 (sent 2 (unmapped 14 nested_beside))) ≡ event 33 1 8 []
unfolding tree applied_tree behaves_synchronised geometry_corner_at
row_unmapped-child = refl

-- without a grab of its parent it is dismissed, and by another serial
pub row_refused-parent : unsent 2 (child_of 15 3 (sent 2 (unmapped 14 popped))) ≡ event 33 1 8 []
unfolding tree applied_tree behaves_synchronised geometry_corner_at
row_refused-parent = refl

pub row_refused-serial : unsent 2 (child_of 15 2 popped) ≡ event 33 1 8 []
unfolding tree applied_tree behaves_synchronised geometry_corner_at
row_refused-serial = refl

-- the latest release counts as well, and then the press still does
pub row_by_release : unsent 2 (child_of 15 5 (sent 2 popped_released)) ≡ []
unfolding tree applied_tree behaves_synchronised geometry_corner_at
row_by_release = refl

pub row_by_press : unsent 2 (child_of 15 3 (sent 2 popped_released)) ≡ []
unfolding tree applied_tree behaves_synchronised geometry_corner_at
row_by_press = refl

-- on a dismissed popup it is refused
pub row_refused-dismissed : unsent 2 (child_of 15 3 (sent 2 (press 5 272 (sent 2 beside)))) ≡ event 33 1 8 []
unfolding tree applied_tree behaves_synchronised geometry_corner_at
row_refused-dismissed = refl

-- ---- no grab while another client holds one

abbrev pop_up : ℕ → ℕ → Desktop → Desktop
pop_up c serial d =
    asks c 17 1 (Word 12 ∷ Word serial ∷ []) (asks c 15 2 (Word 17 ∷ Word 7 ∷ Word 16 ∷ [])
    (asks c 16 2 (Number (pos 0) ∷ Number (pos 0) ∷ Number (pos 1) ∷ Number (pos 1) ∷ [])
    (asks c 16 1 (Number (pos 8) ∷ Number (pos 8) ∷ []) (asks c 5 1 (Word 16 ∷ []) (get_xdg_surface c 15 14 (create_surface c 14 d))))))

-- the first client has had a press and a release, and the second a press
abbrev in_turn : Desktop
in_turn =
    sent 1 (sent 2 (press 5 272 (motion 4 (pos 45) (pos 45) (release 3 272 (press 2 272 (motion 1 (pos 5) (pos 5) both))))))

pub row_in_turn : unsent 1 (pop_up 1 4 in_turn) ≡ []
unfolding tree applied_tree behaves_synchronised geometry_corner_at
row_in_turn = refl

pub row_in_turn-press : unsent 1 (pop_up 1 3 in_turn) ≡ []
unfolding tree applied_tree behaves_synchronised geometry_corner_at
row_in_turn-press = refl

pub row_in_turn-none : unsent 1 (pop_up 1 5 in_turn) ≡ event 17 1 8 []
unfolding tree applied_tree behaves_synchronised geometry_corner_at
row_in_turn-none = refl

pub row_in_turn-held : unsent 1 (pop_up 1 4 (pop_up 2 3 in_turn)) ≡ event 17 1 8 []
unfolding tree applied_tree behaves_synchronised geometry_corner_at
row_in_turn-held = refl

pub row_in_turn-holder : unsent 2 (pop_up 1 4 (pop_up 2 3 in_turn)) ≡ []
unfolding tree applied_tree behaves_synchronised geometry_corner_at
row_in_turn-holder = refl

-- ---- popups that are unmapped, and whose parent is

abbrev hidden : Desktop
hidden = commit 1 6 (attach 1 6 0 placed)

pub row_hidden : unsent 1 hidden ≡ buffer_release 10
unfolding tree applied_tree behaves_synchronised geometry_corner_at
row_hidden = refl

pub row_hidden-windows : corners hidden ≡ []
unfolding tree applied_tree behaves_synchronised geometry_corner_at
row_hidden-windows = refl

pub row_hidden-configured : unsent 1 (commit 1 6 (sent 1 hidden)) ≡ toplevel_configure 8 ++ xdg_configure 7 3
unfolding tree applied_tree behaves_synchronised geometry_corner_at
row_hidden-configured = refl

-- the popup comes back with its parent, which stands in the next place
pub row_hidden-back : corners (commit 1 6 (attach 1 6 10 (acknowledge 1 7 3 (commit 1 6 hidden)))) ≡ at (pos 32) (pos 32) ∷ at (pos 72) (pos 72) ∷ []
unfolding tree applied_tree behaves_synchronised geometry_corner_at
row_hidden-back = refl

-- a popup's own window geometry stands where it is placed
abbrev bordered : Desktop
bordered = commit 1 14 (asks 1 15 3 (Number (pos 2) ∷ Number (pos 2) ∷ Number (pos 4) ∷ Number (pos 4) ∷ []) placed)

pub row_bordered : corners bordered ≡ at (pos 0) (pos 0) ∷ at (pos 38) (pos 38) ∷ []
unfolding tree applied_tree behaves_synchronised geometry_corner_at
row_bordered = refl

-- a null buffer unmaps it, and its next commit places it again, without that geometry
abbrev bordered_hidden : Desktop
bordered_hidden = commit 1 14 (attach 1 14 0 bordered)

pub row_bordered_hidden : unsent 1 bordered_hidden ≡ buffer_release 18
unfolding tree applied_tree behaves_synchronised geometry_corner_at
row_bordered_hidden = refl

pub row_bordered_hidden-windows : corners bordered_hidden ≡ at (pos 0) (pos 0) ∷ []
unfolding tree applied_tree behaves_synchronised geometry_corner_at
row_bordered_hidden-windows = refl

abbrev bordered_again : Desktop
bordered_again = commit 1 14 (sent 1 bordered_hidden)

pub row_bordered_again : unsent 1 bordered_again ≡ event 17 0 24 (u32 40 ++ u32 40 ++ u32 8 ++ u32 8) ++ xdg_configure 15 3
unfolding tree applied_tree behaves_synchronised geometry_corner_at
row_bordered_again = refl

pub row_bordered_again-back : corners (commit 1 14 (attach 1 14 18 (acknowledge 1 15 3 bordered_again))) ≡ at (pos 0) (pos 0) ∷ at (pos 40) (pos 40) ∷ []
unfolding tree applied_tree behaves_synchronised geometry_corner_at
row_bordered_again-back = refl

-- ---- a popup on a dismissed one is configured, and isn't seen

abbrev on_dismissed : Desktop
on_dismissed = commit 2 31 (asks 2 32 2 (Word 33 ∷ Word 15 ∷ Word 16 ∷ []) (get_xdg_surface 2 32 31 (create_surface 2 31 (sent 2 (press 5 272 (sent 2 beside))))))

pub row_on_dismissed : unsent 2 on_dismissed ≡ event 33 0 24 (minus_24 ++ minus_24 ++ u32 8 ++ u32 8) ++ xdg_configure 32 7
unfolding tree applied_tree behaves_synchronised geometry_corner_at
row_on_dismissed = refl

pub row_on_dismissed-windows : corners (commit 2 31 (attach 2 31 18 (acknowledge 2 32 7 on_dismissed))) ≡ at (pos 0) (pos 0) ∷ at (pos 32) (pos 32) ∷ []
unfolding tree applied_tree behaves_synchronised geometry_corner_at
row_on_dismissed-windows = refl

-- what is dismissed is told so once
pub row_on_dismissed-toplevel : unsent 2 (asks 2 8 0 [] (sent 2 on_dismissed)) ≡ delete_id 8 ++ event 33 1 8 []
unfolding tree applied_tree behaves_synchronised geometry_corner_at
row_on_dismissed-toplevel = refl

-- the dismissed popup's commits do nothing, and it may go
pub row_on_dismissed-commit : unsent 2 (commit 2 14 (attach 2 14 0 (sent 2 (press 5 272 (sent 2 beside))))) ≡ buffer_release 18
unfolding tree applied_tree behaves_synchronised geometry_corner_at
row_on_dismissed-commit = refl

pub row_on_dismissed-gone : unsent 2 (asks 2 17 0 [] (sent 2 (press 5 272 (sent 2 beside)))) ≡ delete_id 17
unfolding tree applied_tree behaves_synchronised geometry_corner_at
row_on_dismissed-gone = refl

-- ---- the popup that has the focus goes, and the window below is entered

abbrev focus_gone : Desktop
focus_gone = asks 2 17 0 [] (sent 2 on_popup)

pub row_focus_gone : unsent 2 focus_gone ≡ delete_id 17 ++ leave 13 8 14
unfolding tree applied_tree behaves_synchronised geometry_corner_at
row_focus_gone = refl

pub row_focus_gone-other : unsent 1 focus_gone ≡ enter 13 2 6 10 10
unfolding tree applied_tree behaves_synchronised geometry_corner_at
row_focus_gone-other = refl

-- ---- a press on another client's window raises that, and dismisses the popup

abbrev on_other : Desktop
on_other = press 6 272 (sent 2 (sent 1 (motion 5 (pos 35) (pos 5) (sent 2 popped_released))))

pub row_on_other : unsent 2 on_other ≡ event 17 1 8 []
unfolding tree applied_tree behaves_synchronised geometry_corner_at
row_on_other = refl

pub row_on_other-told : unsent 1 on_other ≡ button 13 3 6 1
unfolding tree applied_tree behaves_synchronised geometry_corner_at
row_on_other-told = refl

pub row_on_other-windows : corners on_other ≡ at (pos 32) (pos 32) ∷ at (pos 0) (pos 0) ∷ []
unfolding tree applied_tree behaves_synchronised geometry_corner_at
row_on_other-windows = refl

-- one without a grab stays, and is raised with its toplevel
abbrev ungrabbed_configured : Desktop
ungrabbed_configured =
    commit 2 14 (asks 2 15 2 (Word 17 ∷ Word 7 ∷ Word 16 ∷ []) (with_positioner (get_xdg_surface 2 15 14 (create_surface 2 14 (sent 2 both_pressed)))))

abbrev ungrabbed : Desktop
ungrabbed = release 3 272 (commit 2 14 (attach 2 14 18 (create_buffer 2 9 18 0 8 (acknowledge 2 15 4 ungrabbed_configured))))

abbrev ungrabbed_below : Desktop
ungrabbed_below = release 7 272 (press 6 272 (motion 5 (pos 35) (pos 5) ungrabbed))

pub row_ungrabbed_below : corners ungrabbed_below ≡ at (pos 32) (pos 32) ∷ at (pos 8) (pos 8) ∷ at (pos 0) (pos 0) ∷ []
unfolding tree applied_tree behaves_synchronised geometry_corner_at
row_ungrabbed_below = refl

pub row_ungrabbed_above : corners (press 9 272 (motion 8 (pos 45) (pos 45) ungrabbed_below)) ≡ at (pos 0) (pos 0) ∷ at (pos 32) (pos 32) ∷ at (pos 8) (pos 8) ∷ []
unfolding tree applied_tree behaves_synchronised geometry_corner_at
row_ungrabbed_above = refl
