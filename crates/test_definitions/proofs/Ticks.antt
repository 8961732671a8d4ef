-- Worked recordings: how many pixels of an output of 64 by 64 a frame damages, at least and at most, where one step since the frame before it changed what is shown, computed on the definitions.
use Rattle.std.proofs.Common.{◌≡◌, ℕ, [], ◌∷◌, Some, refl}
use Rattle.std.specs.Prelude.{ℤ, pos, negsuc}
use Rattle.wl_wire.specs.Wire.{Word, Number}
use Rattle.wl_surface.specs.Trees.{applied_tree, behaves_synchronised, depth, descends_from, height}
use Rattle.spec_desktop.specs.Popups.{geometry_corner_at}
use Rattle.spec_desktop.specs.Windows.{tree}
use Rattle.spec_desktop.specs.Desktop.{Desktop}
use Rattle.test_definitions.proofs.Counts.{allowed, allowed_by, marked}
use Rattle.test_definitions.proofs.Pointer as pointer
use Rattle.test_definitions.proofs.Popups as popups
use Rattle.test_definitions.proofs.Steps.{asks, attach, commit, damage, motion, shown, start}
use Rattle.test_definitions.proofs.Subsurfaces as subsurfaces
use Rattle.test_definitions.proofs.Toplevels as toplevels

-- ---- toplevels

-- a window of 40 by 40 comes, and then one of 8 by 8
pub row_shown : marked 64 (toplevels.ready 1 start) toplevels.one ≡ 1600
unfolding tree applied_tree behaves_synchronised
row_shown = refl

pub row_two : marked 64 toplevels.two_ready toplevels.two ≡ 64
unfolding tree applied_tree behaves_synchronised
row_two = refl

-- the first shows another buffer, with damage of 3 by 3
pub row_three : marked 64 toplevels.three_ready toplevels.three ≡ 9
unfolding tree applied_tree behaves_synchronised
row_three = refl

pub row_three-allowed : allowed 64 toplevels.three_ready toplevels.three ≡ 9
unfolding tree applied_tree behaves_synchronised
row_three-allowed = refl

-- bytes are put into a store that is shown
pub row_rewritten : allowed 64 toplevels.two toplevels.rewritten ≡ 0
unfolding tree applied_tree behaves_synchronised
row_rewritten = refl

-- a commit of one window of 40 by 40, after these requests
abbrev one : Desktop
one = shown 1 start

abbrev least : Desktop → ℕ
least d = marked 64 d (commit 1 6 d)

abbrev most : Desktop → ℕ
most d = allowed 64 d (commit 1 6 d)

-- damage outside the surface, and a row of it
pub row_damage_outside : most (damage 1 6 (negsuc 2147483647) (pos 0) (pos 2147483647) (pos 2147483647) one) ≡ 0
unfolding tree applied_tree behaves_synchronised
row_damage_outside = refl

pub row_damage_row : least (damage 1 6 (pos 0) (pos 0) (pos 2147483647) (pos 1) one) ≡ 40
unfolding tree applied_tree behaves_synchronised
row_damage_row = refl

pub row_damage_row-allowed : most (damage 1 6 (pos 0) (pos 0) (pos 2147483647) (pos 1) one) ≡ 40
unfolding tree applied_tree behaves_synchronised
row_damage_row-allowed = refl

-- another place: the old and the new one
abbrev attached_at : ℕ → ℤ → Desktop → Desktop
attached_at buffer x d = asks 1 6 1 (Word buffer ∷ Number x ∷ Number (pos 0) ∷ []) d

pub row_moved : least (attached_at 11 (pos 3) one) ≡ 1720
unfolding tree applied_tree behaves_synchronised
row_moved = refl

pub row_moved-allowed : most (attached_at 11 (pos 3) one) ≡ 1720
unfolding tree applied_tree behaves_synchronised
row_moved-allowed = refl

-- far outside the output, and back
pub row_far : least (attached_at 11 (pos 2147483647) one) ≡ 1600
unfolding tree applied_tree behaves_synchronised
row_far = refl

pub row_back : least (attached_at 10 (negsuc 16777215) (commit 1 6 (attached_at 11 (pos 2147483647) one))) ≡ 1600
unfolding tree applied_tree behaves_synchronised
row_back = refl

-- another transform, and no buffer
pub row_turned : least (asks 1 6 7 (Number (pos 1) ∷ []) one) ≡ 1600
unfolding tree applied_tree behaves_synchronised
row_turned = refl

pub row_unmapped : least (attach 1 6 0 one) ≡ 1600
unfolding tree applied_tree behaves_synchronised
row_unmapped = refl

-- ---- a subsurface of 4 by 4

pub row_first : marked 64 subsurfaces.child subsurfaces.first ≡ 16
unfolding tree applied_tree behaves_synchronised depth descends_from height
row_first = refl

-- its commits are held, and the damage of two of them is applied with its parent
pub row_second : allowed 64 subsurfaces.first subsurfaces.second ≡ 0
unfolding tree applied_tree behaves_synchronised depth descends_from height
row_second = refl

pub row_third : allowed 64 subsurfaces.second subsurfaces.third ≡ 0
unfolding tree applied_tree behaves_synchronised depth descends_from height
row_third = refl

pub row_applied : marked 64 subsurfaces.third subsurfaces.applied ≡ 2
unfolding tree applied_tree behaves_synchronised depth descends_from height
row_applied = refl

pub row_applied-allowed : allowed 64 subsurfaces.third subsurfaces.applied ≡ 2
unfolding tree applied_tree behaves_synchronised depth descends_from height
row_applied-allowed = refl

pub row_desynchronised : marked 64 subsurfaces.second subsurfaces.desynchronised ≡ 1
unfolding tree applied_tree behaves_synchronised depth descends_from height
row_desynchronised = refl

-- it is placed below its parent, or goes: the whole tree may be damaged
pub row_below : marked 64 subsurfaces.applied subsurfaces.below ≡ 16
unfolding tree applied_tree behaves_synchronised depth descends_from height
row_below = refl

pub row_below-allowed : allowed 64 subsurfaces.applied subsurfaces.below ≡ 1600
unfolding tree applied_tree behaves_synchronised depth descends_from height
row_below-allowed = refl

pub row_unlinked : marked 64 subsurfaces.applied subsurfaces.unlinked ≡ 16
unfolding tree applied_tree behaves_synchronised depth descends_from height
row_unlinked = refl

pub row_unlinked-allowed : allowed 64 subsurfaces.applied subsurfaces.unlinked ≡ 1600
unfolding tree applied_tree behaves_synchronised depth descends_from height
row_unlinked-allowed = refl

-- ---- a popup of 8 by 8

pub row_popped : marked 64 popups.configured popups.popped ≡ 64
unfolding tree applied_tree behaves_synchronised geometry_corner_at
row_popped = refl

pub row_popped-allowed : allowed 64 popups.configured popups.popped ≡ 64
unfolding tree applied_tree behaves_synchronised geometry_corner_at
row_popped-allowed = refl

-- its parent's window geometry moves it by (4, 4)
pub row_with_geometry : marked 64 popups.popped popups.with_geometry ≡ 112
unfolding tree applied_tree behaves_synchronised geometry_corner_at
row_with_geometry = refl

pub row_with_geometry-allowed : allowed 64 popups.popped popups.with_geometry ≡ 112
unfolding tree applied_tree behaves_synchronised geometry_corner_at
row_with_geometry-allowed = refl

-- it goes with its toplevel
pub row_without_toplevel : marked 64 popups.with_geometry popups.without_toplevel ≡ 1664
unfolding tree applied_tree behaves_synchronised geometry_corner_at
row_without_toplevel = refl

-- ---- the pointer

-- a window moves by one pixel
pub row_moving : marked 64 pointer.moving (motion 12 (pos 6) (pos 5) pointer.moving) ≡ 1640
unfolding tree applied_tree behaves_synchronised
row_moving = refl

-- a client goes with its window, of which 32 by 32 are seen, and its popup
pub row_gone : marked 64 pointer.on_popup pointer.gone ≡ 1088
unfolding tree applied_tree behaves_synchronised geometry_corner_at
row_gone = refl

-- a press dismisses the popup
pub row_dismissed : marked 64 pointer.beside pointer.dismissed ≡ 64
unfolding tree applied_tree behaves_synchronised geometry_corner_at
row_dismissed = refl

-- a press raises a window above one of 8 by 8: what they share is damaged, and no more than the window that is raised
pub row_raised : marked 64 pointer.raising pointer.raised ≡ 64
unfolding tree applied_tree behaves_synchronised
row_raised = refl

pub row_raised-allowed : allowed_by (Some (1, 6)) 64 pointer.raising pointer.raised ≡ 1600
unfolding tree applied_tree behaves_synchronised
row_raised-allowed = refl
