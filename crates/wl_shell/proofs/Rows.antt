-- Worked examples, computed on the definitions.
use Rattle.std.proofs.Common.{◌≡◌, ℕ, [], ◌∷◌, Bool, Option, Some, None, true, false, refl}
use Rattle.std.specs.Prelude.{ℤ, pos, negsuc}
use Rattle.wl_geom.specs.declared.rect.Rect.{Rect}
use Rattle.wl_shell.specs.Positioner.{Placed, Positioner, first_positioner, is_complete, place, rect_set}
use Rattle.std.specs.Option.{option_and_then, option_map}
use Rattle.wl_shell.specs.Popups.{Popped, copying, dismiss, effect_in, first_of, is_configured, new_popup, popped_of, popup_changed, popup_in, repositioning, with_effect}
use Rattle.wl_shell.specs.Shell.{Configure, Fresh, Waiting, Ready, Mapped, Unconfigured, Configures, Maps, Popup, Unmaps, XdgSurface, acknowledged, acknowledging, configuring, later_than}
use Rattle.wl_shell.specs.Shell.{next_serial, on_commit, up_to}

abbrev rect : ℤ → ℤ → ℤ → ℤ → Rect
rect x y w h = record { x = x; y = y; w = w; h = h }

abbrev placed : ℤ → ℤ → ℤ → ℤ → Option Placed
placed x y w h = Some (record { x = x; y = y; w = w; h = h })

-- below and to the right of a rectangle near the right edge of an output of 640 by 480, with an adjustment
abbrev near_the_edge : ℤ → ℕ → Positioner
near_the_edge width adjustment =
    record first_positioner {
      size = Some (width, pos 50);
      anchor_rect = Some (rect (pos 600) (pos 10) (pos 20) (pos 20));
      anchor = 8;
      gravity = 8;
      adjustment = adjustment;
    }

abbrev output : Rect
output = rect (pos 0) (pos 0) (pos 640) (pos 480)

pub row_unadjusted : place (near_the_edge (pos 100) 0) output (pos 0, pos 0) ≡ placed (pos 620) (pos 30) (pos 100) (pos 50)
row_unadjusted = refl

-- flip_x
pub row_flipped : place (near_the_edge (pos 100) 4) output (pos 0, pos 0) ≡ placed (pos 500) (pos 30) (pos 100) (pos 50)
row_flipped = refl

-- slide_x
pub row_slid : place (near_the_edge (pos 100) 1) output (pos 0, pos 0) ≡ placed (pos 540) (pos 30) (pos 100) (pos 50)
row_slid = refl

-- slide_x, flip_x and resize_x of one that is wider than the output
pub row_resized : place (near_the_edge (pos 700) 21) output (pos 0, pos 0) ≡ placed (pos 0) (pos 30) (pos 640) (pos 50)
row_resized = refl

-- a popup at its parent's lower right corner, and one that is moved by its offset
abbrev at_the_corner : ℤ × ℤ → Positioner
at_the_corner offset =
    record first_positioner { size = Some (pos 8, pos 8); anchor_rect = Some (rect (pos 0) (pos 0) (pos 40) (pos 40)); anchor = 8; gravity = 8; offset = offset }

pub row_corner : place (at_the_corner (pos 0, pos 0)) (rect (pos 0) (pos 0) (pos 64) (pos 64)) (pos 0, pos 0) ≡ placed (pos 40) (pos 40) (pos 8) (pos 8)
row_corner = refl

pub row_corner-offset : place (at_the_corner (negsuc 7, negsuc 7)) (rect (pos 0) (pos 0) (pos 64) (pos 64)) (pos 0, pos 0) ≡ placed (pos 32) (pos 32) (pos 8) (pos 8)
row_corner-offset = refl

-- a rectangle of 0 by 0 isn't one, and one of 0 by 5 is
pub row_no_rect : rect_set (rect (pos 1) (pos 1) (pos 0) (pos 0)) ≡ None
row_no_rect = refl

pub row_thin_rect : rect_set (rect (pos 1) (pos 1) (pos 0) (pos 5)) ≡ Some (rect (pos 1) (pos 1) (pos 0) (pos 5))
row_thin_rect = refl

pub row_incomplete : is_complete (record first_positioner { size = Some (pos 8, pos 8) }) ≡ false
row_incomplete = refl

-- the first commit has no buffer and is configured; once that is acknowledged a buffer maps the surface; a null buffer unmaps it
pub row_first_commit : on_commit (Some Fresh) false ≡ Configures
row_first_commit = refl

pub row_acknowledged : acknowledged Waiting ≡ Ready
row_acknowledged = refl

pub row_mapped : on_commit (Some Ready) true ≡ Maps
row_mapped = refl

pub row_unmapped : on_commit (Some Mapped) false ≡ Unmaps
row_unmapped = refl

-- a buffer before an acknowledgement is refused
pub row_unconfigured : on_commit (Some Waiting) true ≡ Unconfigured
row_unconfigured = refl

-- an acknowledgement of the second of three configures leaves the third
abbrev unplaced : ℕ → Configure
unplaced serial = record { serial = serial; placement = None }

pub row_later : later_than 2 (unplaced 1 ∷ unplaced 2 ∷ unplaced 3 ∷ []) ≡ unplaced 3 ∷ []
row_later = refl

pub row_up_to : up_to 2 (unplaced 1 ∷ unplaced 2 ∷ unplaced 3 ∷ []) ≡ unplaced 1 ∷ unplaced 2 ∷ []
row_up_to = refl

-- a commit that configures a popup places it at once, and its configure places it nowhere else later
abbrev corner_popup : XdgSurface
corner_popup = new_popup 8 5 (at_the_corner (pos 0, pos 0)) 0 0 (record { id = 7; base = 4; surface = 6; role = None; configures = []; since = 0 })

abbrev configured_popup : XdgSurface
configured_popup = with_effect 3 1 (λ popup. placed (pos 40) (pos 40) (pos 8) (pos 8)) Configures corner_popup

pub row_placed : option_map (λ (popup : Popup). popup.placement) (popup_in configured_popup.role) ≡ Some (placed (pos 40) (pos 40) (pos 8) (pos 8))
row_placed = refl

pub row_configured : configured_popup.configures ≡ unplaced 3 ∷ []
row_configured = refl

-- ---- a popup is placed anew (xdg-shell.xml, xdg_popup.reposition)

abbrev where_now : Popup → Option Placed
where_now popup = place popup.positioner (rect (pos 0) (pos 0) (pos 64) (pos 64)) (pos 0, pos 0)

-- by the same positioner with another offset, and a configure of this serial where one is sent
abbrev anew_by : ℕ → Positioner → XdgSurface → Option Popped → XdgSurface
anew_by serial positioner x None = x
anew_by serial positioner x (Some p) = repositioning (is_configured p) serial (where_now (copying positioner p.popup)) positioner x

abbrev anew : ℕ → ℤ → XdgSurface → XdgSurface
anew serial offset x = anew_by serial (at_the_corner (offset, offset)) x (first_of (popped_of x))

abbrev committed_with : Bool → XdgSurface → XdgSurface
committed_with has_buffer x = with_effect 2 1 where_now (effect_in has_buffer x.role) x

-- where it stands, and where it will stand
abbrev stands_at : XdgSurface → Option Placed
stands_at x = option_and_then (λ (popup : Popup). popup.placement) (popup_in x.role)

abbrev waits_at : XdgSurface → Option Placed
waits_at x = option_and_then (λ (popup : Popup). popup.waiting) (popup_in x.role)

abbrev ready_popup : XdgSurface
ready_popup = acknowledging 2 (committed_with false corner_popup)

abbrev mapped_popup : XdgSurface
mapped_popup = committed_with true ready_popup

abbrev corner : Option Placed
corner = placed (pos 40) (pos 40) (pos 8) (pos 8)

abbrev near : Option Placed
near = placed (pos 32) (pos 32) (pos 8) (pos 8)

abbrev nearer : Option Placed
nearer = placed (pos 24) (pos 24) (pos 8) (pos 8)

-- it is configured with the new place, and stands where it stood until the commit after the acknowledgement
abbrev once : XdgSurface
once = anew 3 (negsuc 7) mapped_popup

pub row_reposition : once.configures ≡ record { serial = 3; placement = near } ∷ []
row_reposition = refl

pub row_reposition_stays : stands_at once ≡ corner
row_reposition_stays = refl

pub row_reposition_committed : stands_at (committed_with true once) ≡ corner
row_reposition_committed = refl

pub row_reposition_acknowledged : stands_at (acknowledging 3 once) ≡ corner
row_reposition_acknowledged = refl

pub row_reposition_waits : waits_at (acknowledging 3 once) ≡ near
row_reposition_waits = refl

pub row_reposition_arrives : stands_at (committed_with true (acknowledging 3 once)) ≡ near
row_reposition_arrives = refl

pub row_reposition_arrived : waits_at (committed_with true (acknowledging 3 once)) ≡ None
row_reposition_arrived = refl

-- a second time before it is acknowledged: both with the later serial, one by one, and the first alone
abbrev twice : XdgSurface
twice = anew 4 (negsuc 15) once

pub row_twice : stands_at (committed_with true (acknowledging 4 twice)) ≡ nearer
row_twice = refl

pub row_twice_one_by_one : stands_at (committed_with true (acknowledging 4 (acknowledging 3 twice))) ≡ nearer
row_twice_one_by_one = refl

pub row_twice_the_first : stands_at (committed_with true (acknowledging 3 twice)) ≡ near
row_twice_the_first = refl

-- a third time: what was acknowledged is in force, and the last still waits to be
abbrev thrice : XdgSurface
thrice = committed_with true (acknowledging 4 (anew 5 (pos 0) twice))

pub row_thrice : stands_at thrice ≡ nearer
row_thrice = refl

pub row_thrice_later : stands_at (committed_with true (acknowledging 5 thrice)) ≡ corner
row_thrice_later = refl

-- acknowledged with a later configure that places nothing
pub row_with_a_later_one : stands_at (committed_with true (acknowledging 4 (configuring 4 once))) ≡ near
row_with_a_later_one = refl

-- a commit that unmaps forgets where it was to be placed, acknowledged or not
pub row_unmapping_forgets : waits_at (committed_with false (acknowledging 3 twice)) ≡ None
row_unmapping_forgets = refl

pub row_unmapping_stands : stands_at (committed_with false (acknowledging 3 twice)) ≡ corner
row_unmapping_stands = refl

pub row_unmapping_configures : (committed_with false (acknowledging 3 twice)).configures ≡ []
row_unmapping_configures = refl

-- before anything was configured nothing is sent, and the commit in that stage uses the copy at once
pub row_fresh : (anew 2 (negsuc 7) corner_popup).configures ≡ []
row_fresh = refl

pub row_fresh_commit : stands_at (committed_with false (anew 2 (negsuc 7) corner_popup)) ≡ near
row_fresh_commit = refl

-- before it is mapped: the commit that maps it puts the place in force, and one without a buffer does
pub row_maps : stands_at (committed_with true (acknowledging 3 (anew 3 (negsuc 7) ready_popup))) ≡ near
row_maps = refl

pub row_ready_commit : stands_at (committed_with false (acknowledging 3 (anew 3 (negsuc 7) ready_popup))) ≡ near
row_ready_commit = refl

-- of a dismissed popup nothing is put in force, and none is sent
pub row_dismissed : stands_at (committed_with true (popup_changed dismiss (acknowledging 3 once))) ≡ corner
row_dismissed = refl

pub row_dismissed_sent : (anew 3 (negsuc 7) (popup_changed dismiss mapped_popup)).configures ≡ []
row_dismissed_sent = refl

pub row_last_serial : next_serial 4294967295 ≡ 1
row_last_serial = refl
