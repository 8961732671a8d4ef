-- Worked recordings with popups that are placed anew, computed on the definitions.
use Rattle.std.proofs.Common.{◌≡◌, ℕ, zero, suc, List, [], ◌∷◌, ◌++◌, Some, None, true, false, refl, map}
use Rattle.std.specs.Prelude.{ℤ, pos, negsuc, codes}
use Rattle.wl_wire.specs.Wire.{Word, Number}
use Rattle.spec_desktop.specs.declared.cause.Cause.TheVariants.{Protocol}
use Rattle.wl_surface.specs.Trees.{applied_tree, behaves_synchronised}
use Rattle.spec_desktop.specs.Popups.{geometry_corner_at}
use Rattle.spec_desktop.specs.Windows.{Place, Window, tree}
use Rattle.spec_desktop.specs.Desktop.{Desktop}
use Rattle.spec_desktop.specs.Stacked.{all_windows}
use Rattle.test_definitions.proofs.Counts.{allowed, marked, marks}
use Rattle.test_definitions.proofs.Popups.{popped as popped_early, popup_on, pops}
use Rattle.test_definitions.proofs.Steps.{acknowledge, asks, at, attach, commit, corners, event, prepared, sent, shows_first, start, status, u32, unsent}
use Rattle.test_definitions.proofs.Steps.{with_versions, xdg_configure}

-- xdg_positioner.set_offset, of the positioner 16, and xdg_popup.reposition, of the popup 17 whose xdg_surface is 15 and whose surface is 14
abbrev set_offset : ℤ → Desktop → Desktop
set_offset by d = asks 1 16 6 (Number by ∷ Number by ∷ []) d

abbrev reposition : ℕ → ℕ → Desktop → Desktop
reposition positioner token d = asks 1 17 2 (Word positioner ∷ Word token ∷ []) d

-- by its positioner with another offset
abbrev moved_by : ℤ → ℕ → Desktop → Desktop
moved_by by token d = reposition 16 token (set_offset by d)

-- xdg_popup.configure of one of 8 by 8 pixels, and the configure of its xdg_surface
abbrev configured : ℕ → ℕ → List ℕ
configured at serial = event 17 0 24 (u32 at ++ u32 at ++ u32 8 ++ u32 8) ++ xdg_configure 15 serial

-- xdg_popup.repositioned, and then these
abbrev repositioned : ℕ → ℕ → ℕ → List ℕ
repositioned token at serial = event 17 2 12 (u32 token) ++ configured at serial

-- its buffer is shown once more
abbrev shows_again : Desktop → Desktop
shows_again d = commit 1 14 (attach 1 14 18 d)

abbrev hidden : Desktop → Desktop
hidden d = sent 1 (commit 1 14 (attach 1 14 0 d))

-- a window of 40 by 40 pixels of a client that has bound xdg_wm_base at version 3, with a popup of 8 by 8 that shows none yet
abbrev fresh : Desktop
fresh = popup_on (sent 1 (shows_first 40 1 (prepared 6400 40 1 (with_versions 2 3 1 start))))

-- which is configured, and then is shown at (40, 40)
abbrev waiting : Desktop
waiting = sent 1 (commit 1 14 fresh)

abbrev popped : Desktop
popped = pops 2 waiting

-- ---- a popup that is shown

abbrev once : Desktop
once = moved_by (negsuc 7) 77 popped

pub row_once : unsent 1 once ≡ repositioned 77 32 3
unfolding tree applied_tree behaves_synchronised geometry_corner_at
row_once = refl

-- it stands where it stood: neither a commit before the acknowledgement moves it, nor the acknowledgement
pub row_once-stays : corners once ≡ at (pos 0) (pos 0) ∷ at (pos 40) (pos 40) ∷ []
unfolding tree applied_tree behaves_synchronised geometry_corner_at
row_once-stays = refl

pub row_once-committed : corners (commit 1 14 once) ≡ at (pos 0) (pos 0) ∷ at (pos 40) (pos 40) ∷ []
unfolding tree applied_tree behaves_synchronised geometry_corner_at
row_once-committed = refl

abbrev acknowledged : Desktop
acknowledged = acknowledge 1 15 3 (sent 1 once)

pub row_acknowledged : corners acknowledged ≡ at (pos 0) (pos 0) ∷ at (pos 40) (pos 40) ∷ []
unfolding tree applied_tree behaves_synchronised geometry_corner_at
row_acknowledged = refl

pub row_acknowledged-unanswered : unsent 1 acknowledged ≡ []
unfolding tree applied_tree behaves_synchronised geometry_corner_at
row_acknowledged-unanswered = refl

-- neither request marks anything
pub row_once-allowed : allowed 64 popped once ≡ 0
unfolding tree applied_tree behaves_synchronised geometry_corner_at
row_once-allowed = refl

pub row_acknowledged-allowed : allowed 64 once acknowledged ≡ 0
unfolding tree applied_tree behaves_synchronised geometry_corner_at
row_acknowledged-allowed = refl

-- then its commit moves it
abbrev moved : Desktop
moved = commit 1 14 acknowledged

-- where the windows stand, and how wide and how high they are
abbrev records : Desktop → List (Place × ℕ × ℕ)
records d = map (λ (w : Window). (w.corner, w.width, w.height)) (all_windows d)

pub row_moved : records moved ≡ (at (pos 0) (pos 0), 40, 40) ∷ (at (pos 32) (pos 32), 8, 8) ∷ []
unfolding tree applied_tree behaves_synchronised geometry_corner_at
row_moved = refl

pub row_moved-unanswered : unsent 1 moved ≡ []
unfolding tree applied_tree behaves_synchronised geometry_corner_at
row_moved-unanswered = refl

-- and marks its old and its new place
pub row_moved-marks : marked 64 acknowledged moved ≡ 128
unfolding tree applied_tree behaves_synchronised geometry_corner_at
row_moved-marks = refl

pub row_moved-allowed : allowed 64 acknowledged moved ≡ 128
unfolding tree applied_tree behaves_synchronised geometry_corner_at
row_moved-allowed = refl

pub row_moved-old : marks acknowledged moved 47 47 ≡ true
unfolding tree applied_tree behaves_synchronised geometry_corner_at
row_moved-old = refl

pub row_moved-new : marks acknowledged moved 32 32 ≡ true
unfolding tree applied_tree behaves_synchronised geometry_corner_at
row_moved-new = refl

pub row_moved-between : marks acknowledged moved 40 39 ≡ false
unfolding tree applied_tree behaves_synchronised geometry_corner_at
row_moved-between = refl

-- ---- placed anew again, before the first time was acknowledged

abbrev twice : Desktop
twice = moved_by (negsuc 15) 78 (sent 1 once)

pub row_twice : unsent 1 twice ≡ repositioned 78 24 4
unfolding tree applied_tree behaves_synchronised geometry_corner_at
row_twice = refl

-- the later one is acknowledged with the earlier
pub row_twice-later : corners (commit 1 14 (acknowledge 1 15 4 twice)) ≡ at (pos 0) (pos 0) ∷ at (pos 24) (pos 24) ∷ []
unfolding tree applied_tree behaves_synchronised geometry_corner_at
row_twice-later = refl

-- of two that are acknowledged before a commit the latest counts
pub row_twice-both : corners (commit 1 14 (acknowledge 1 15 4 (acknowledge 1 15 3 twice))) ≡ at (pos 0) (pos 0) ∷ at (pos 24) (pos 24) ∷ []
unfolding tree applied_tree behaves_synchronised geometry_corner_at
row_twice-both = refl

-- or each by its own commit
abbrev one_by_one : Desktop
one_by_one = commit 1 14 (acknowledge 1 15 3 twice)

pub row_one_by_one : corners one_by_one ≡ at (pos 0) (pos 0) ∷ at (pos 32) (pos 32) ∷ []
unfolding tree applied_tree behaves_synchronised geometry_corner_at
row_one_by_one = refl

pub row_one_by_one-later : corners (commit 1 14 (acknowledge 1 15 4 one_by_one)) ≡ at (pos 0) (pos 0) ∷ at (pos 24) (pos 24) ∷ []
unfolding tree applied_tree behaves_synchronised geometry_corner_at
row_one_by_one-later = refl

-- ---- a commit that unmaps the popup forgets where it was to stand

-- its serial isn't one to be acknowledged
pub row_forgotten : status 1 (acknowledge 1 15 3 (hidden once)) ≡ Some (Protocol 15 4)
unfolding tree applied_tree behaves_synchronised geometry_corner_at
row_forgotten = refl

-- one that was acknowledged isn't put in force later: placed anew while it is hidden, the popup is told nothing, and stands there in the end
abbrev back : Desktop
back = moved_by (pos 0) 78 (hidden acknowledged)

pub row_back : unsent 1 back ≡ []
unfolding tree applied_tree behaves_synchronised geometry_corner_at
row_back = refl

abbrev back_configured : Desktop
back_configured = commit 1 14 back

pub row_back_configured : unsent 1 back_configured ≡ configured 40 4
unfolding tree applied_tree behaves_synchronised geometry_corner_at
row_back_configured = refl

pub row_back_shown : corners (shows_again (acknowledge 1 15 4 back_configured)) ≡ at (pos 0) (pos 0) ∷ at (pos 40) (pos 40) ∷ []
unfolding tree applied_tree behaves_synchronised geometry_corner_at
row_back_shown = refl

-- the positioner stays the popup's: without another it is placed by that
pub row_again : unsent 1 (commit 1 14 (hidden acknowledged)) ≡ configured 32 4
unfolding tree applied_tree behaves_synchronised geometry_corner_at
row_again = refl

-- ---- before the popup is shown

-- before its first commit it is told nothing, and that commit places it by the new copy
abbrev fresh_moved : Desktop
fresh_moved = moved_by (negsuc 7) 77 fresh

pub row_fresh : unsent 1 fresh_moved ≡ []
unfolding tree applied_tree behaves_synchronised geometry_corner_at
row_fresh = refl

pub row_fresh-commit : unsent 1 (commit 1 14 fresh_moved) ≡ configured 32 2
unfolding tree applied_tree behaves_synchronised geometry_corner_at
row_fresh-commit = refl

-- before its first configure is acknowledged: it is shown where the last acknowledged one places it
abbrev waiting_moved : Desktop
waiting_moved = moved_by (negsuc 7) 77 waiting

pub row_waiting : unsent 1 waiting_moved ≡ repositioned 77 32 3
unfolding tree applied_tree behaves_synchronised geometry_corner_at
row_waiting = refl

pub row_waiting-both : corners (pops 3 waiting_moved) ≡ at (pos 0) (pos 0) ∷ at (pos 32) (pos 32) ∷ []
unfolding tree applied_tree behaves_synchronised geometry_corner_at
row_waiting-both = refl

pub row_waiting-first : corners (pops 2 waiting_moved) ≡ at (pos 0) (pos 0) ∷ at (pos 40) (pos 40) ∷ []
unfolding tree applied_tree behaves_synchronised geometry_corner_at
row_waiting-first = refl

-- and after that
abbrev ready_moved : Desktop
ready_moved = moved_by (negsuc 7) 77 (acknowledge 1 15 2 waiting)

pub row_ready : unsent 1 ready_moved ≡ repositioned 77 32 3
unfolding tree applied_tree behaves_synchronised geometry_corner_at
row_ready = refl

pub row_ready-shown : corners (pops 3 ready_moved) ≡ at (pos 0) (pos 0) ∷ at (pos 32) (pos 32) ∷ []
unfolding tree applied_tree behaves_synchronised geometry_corner_at
row_ready-shown = refl

-- ---- one that is dismissed, with its toplevel

abbrev dismissed : Desktop
dismissed = sent 1 (asks 1 8 0 [] popped)

pub row_dismissed : unsent 1 (moved_by (negsuc 7) 77 dismissed) ≡ []
unfolding tree applied_tree behaves_synchronised geometry_corner_at
row_dismissed = refl

-- ---- it is placed within the output

-- (40, 40) of a popup of 30 by 30 would pass the corner (64, 64), and it may slide
abbrev sliding : Desktop
sliding = reposition 16 77 (asks 1 16 5 (Word 3 ∷ []) (asks 1 16 1 (Number (pos 30) ∷ Number (pos 30) ∷ []) popped))

pub row_sliding : unsent 1 sliding ≡ event 17 2 12 (u32 77) ++ event 17 0 24 (u32 34 ++ u32 34 ++ u32 30 ++ u32 30) ++ xdg_configure 15 3
unfolding tree applied_tree behaves_synchronised geometry_corner_at
row_sliding = refl

-- ---- what has no effect, and what is refused

-- xdg_positioner.set_reactive, set_parent_size and set_parent_configure
abbrev reactive : Desktop → Desktop
reactive d = asks 1 16 9 (Word 4294967295 ∷ []) (asks 1 16 8 (Number (negsuc 4) ∷ Number (pos 0) ∷ []) (asks 1 16 7 [] d))

pub row_reactive : unsent 1 (moved_by (negsuc 7) 77 (reactive popped)) ≡ repositioned 77 32 3
unfolding tree applied_tree behaves_synchronised geometry_corner_at
row_reactive = refl

-- a positioner without a size: wl_display.error(5, 5, "invalid_positioner")
abbrev incomplete : Desktop → Desktop
incomplete d = reposition 19 1 (asks 1 5 1 (Word 19 ∷ []) d)

pub row_incomplete : unsent 1 (incomplete popped) ≡ event 1 0 40 (u32 5 ++ u32 5 ++ u32 19 ++ codes "invalid_positioner" ++ 0 ∷ 0 ∷ [])
unfolding tree applied_tree behaves_synchronised geometry_corner_at
row_incomplete = refl

pub row_incomplete-end : status 1 (incomplete popped) ≡ Some (Protocol 5 5)
unfolding tree applied_tree behaves_synchronised geometry_corner_at
row_incomplete-end = refl

-- also where the popup would be told nothing
pub row_incomplete-dismissed : status 1 (incomplete dismissed) ≡ Some (Protocol 5 5)
unfolding tree applied_tree behaves_synchronised geometry_corner_at
row_incomplete-dismissed = refl

-- there is no such request at version 1: wl_display.error(1, 1, "invalid_method")
pub row_version_1 : unsent 1 (reposition 16 1 popped_early) ≡ event 1 0 36 (u32 1 ++ u32 1 ++ u32 15 ++ codes "invalid_method" ++ 0 ∷ 0 ∷ [])
unfolding tree applied_tree behaves_synchronised geometry_corner_at
row_version_1 = refl

-- as many configures wait as may: wl_display.error(1, 3, "implementation"), whatever positioner is named
abbrev often : ℕ → Desktop → Desktop
often zero d = d
often (suc n) d = sent 1 (reposition 16 n (often n d))

pub row_often : status 1 (often 64 popped) ≡ None
unfolding tree applied_tree behaves_synchronised geometry_corner_at
row_often = refl

pub row_too_often : unsent 1 (reposition 16 64 (often 64 popped)) ≡ event 1 0 36 (u32 1 ++ u32 3 ++ u32 15 ++ codes "implementation" ++ 0 ∷ 0 ∷ [])
unfolding tree applied_tree behaves_synchronised geometry_corner_at
row_too_often = refl

pub row_too_often-incomplete : status 1 (incomplete (often 64 popped)) ≡ Some (Protocol 1 3)
unfolding tree applied_tree behaves_synchronised geometry_corner_at
row_too_often-incomplete = refl
