-- Worked recordings with popups, computed on the definitions.
use Rattle.std.proofs.Common.{◌≡◌, ℕ, [], ◌∷◌, ◌++◌, Some, refl}
use Rattle.std.specs.Prelude.{pos, codes}
use Rattle.wl_wire.specs.Wire.{Word, Number}
use Rattle.spec_desktop.specs.declared.cause.Cause.TheVariants.{Protocol}
use Rattle.wl_surface.specs.Trees.{applied_tree, behaves_synchronised}
use Rattle.spec_desktop.specs.Windows.{tree}
use Rattle.spec_desktop.specs.Desktop.{Desktop}
use Rattle.spec_desktop.specs.Popups.{geometry_corner_at}
use Rattle.test_definitions.proofs.Steps.{acknowledge, asks, at, attach, bind, commit, corners, create_buffer, create_surface, delete_id, event, get_xdg_surface, sent, shown, start, status, u32, unsent}
use Rattle.test_definitions.proofs.Steps.{xdg_configure}

-- a positioner 16 of 8 by 8 pixels, at the lower right corner of (0, 0, 40, 40)
abbrev pub with_positioner : Desktop → Desktop
with_positioner d =
    asks 1 16 4 (Word 8 ∷ []) (asks 1 16 3 (Word 8 ∷ [])
    (asks 1 16 2 (Number (pos 0) ∷ Number (pos 0) ∷ Number (pos 40) ∷ Number (pos 40) ∷ [])
    (asks 1 16 1 (Number (pos 8) ∷ Number (pos 8) ∷ []) (asks 1 5 1 (Word 16 ∷ []) d))))

-- a popup 17 of the xdg_surface 15 and the surface 14
abbrev pub popup_on : Desktop → Desktop
popup_on d = asks 1 15 2 (Word 17 ∷ Word 7 ∷ Word 16 ∷ []) (with_positioner (get_xdg_surface 1 15 14 (create_surface 1 14 d)))

abbrev pub with_popup : Desktop
with_popup = popup_on (shown 1 start)

pub row_with_popup : unsent 1 with_popup ≡ []
unfolding tree applied_tree behaves_synchronised geometry_corner_at
row_with_popup = refl

-- its first commit places it
abbrev pub configured : Desktop
configured = commit 1 14 with_popup

pub row_configured : unsent 1 configured ≡ event 17 0 24 (u32 40 ++ u32 40 ++ u32 8 ++ u32 8) ++ xdg_configure 15 2
unfolding tree applied_tree behaves_synchronised geometry_corner_at
row_configured = refl

-- and it shows a buffer 18 of 8 by 8 pixels
abbrev pub pops : ℕ → Desktop → Desktop
pops serial d = commit 1 14 (attach 1 14 18 (create_buffer 1 9 18 0 8 (acknowledge 1 15 serial d)))

abbrev pub popped : Desktop
popped = pops 2 (sent 1 configured)

pub row_popped : corners popped ≡ at (pos 0) (pos 0) ∷ at (pos 40) (pos 40) ∷ []
unfolding tree applied_tree behaves_synchronised geometry_corner_at
row_popped = refl

pub row_popped-unanswered : unsent 1 popped ≡ []
unfolding tree applied_tree behaves_synchronised geometry_corner_at
row_popped-unanswered = refl

-- it stands relative to its parent's window geometry
abbrev pub with_geometry : Desktop
with_geometry = commit 1 6 (asks 1 7 3 (Number (pos 4) ∷ Number (pos 4) ∷ Number (pos 32) ∷ Number (pos 32) ∷ []) popped)

pub row_with_geometry : corners with_geometry ≡ at (pos 0) (pos 0) ∷ at (pos 44) (pos 44) ∷ []
unfolding tree applied_tree behaves_synchronised geometry_corner_at
row_with_geometry = refl

-- xdg_toplevel.destroy dismisses it
abbrev pub without_toplevel : Desktop
without_toplevel = asks 1 8 0 [] with_geometry

pub row_without_toplevel : unsent 1 without_toplevel ≡ delete_id 8 ++ event 17 1 8 []
unfolding tree applied_tree behaves_synchronised geometry_corner_at
row_without_toplevel = refl

pub row_without_toplevel-windows : corners without_toplevel ≡ []
unfolding tree applied_tree behaves_synchronised geometry_corner_at
row_without_toplevel-windows = refl

-- ---- xdg_popup.grab

-- without a press it dismisses the popup, whose commits then do nothing
abbrev pub with_seat : Desktop → Desktop
with_seat d = sent 1 (bind 1 5 (codes "wl_seat") 1 12 d)

abbrev refused : Desktop
refused = asks 1 17 1 (Word 12 ∷ Word 1 ∷ []) (with_seat with_popup)

pub row_refused : unsent 1 refused ≡ event 17 1 8 []
unfolding tree applied_tree behaves_synchronised geometry_corner_at
row_refused = refl

pub row_refused-commit : unsent 1 (commit 1 14 (sent 1 refused)) ≡ []
unfolding tree applied_tree behaves_synchronised geometry_corner_at
row_refused-commit = refl

-- that of a popup that is mapped is an error
abbrev late : Desktop
late = asks 1 17 1 (Word 12 ∷ Word 1 ∷ []) (with_seat popped)

pub row_late : unsent 1 late ≡ event 1 0 36 (u32 17 ++ u32 0 ++ u32 13 ++ codes "invalid_grab" ++ 0 ∷ 0 ∷ 0 ∷ 0 ∷ [])
unfolding tree applied_tree behaves_synchronised geometry_corner_at
row_late = refl

pub row_late-end : status 1 late ≡ Some (Protocol 17 0)
unfolding tree applied_tree behaves_synchronised geometry_corner_at
row_late-end = refl

-- ---- within the output

-- a larger popup of the surface 14, which may slide: (40, 40) would pass the corner (64, 64) of the output
abbrev sliding : Desktop
sliding = asks 1 16 5 (Word 3 ∷ []) (asks 1 16 1 (Number (pos 30) ∷ Number (pos 30) ∷ []) (with_positioner (shown 1 start)))

abbrev slid : Desktop
slid = commit 1 14 (asks 1 15 2 (Word 17 ∷ Word 7 ∷ Word 16 ∷ []) (get_xdg_surface 1 15 14 (create_surface 1 14 sliding)))

pub row_sliding : unsent 1 slid ≡ event 17 0 24 (u32 34 ++ u32 34 ++ u32 30 ++ u32 30) ++ xdg_configure 15 2
unfolding tree applied_tree behaves_synchronised geometry_corner_at
row_sliding = refl

-- on the popup at (40, 40) one of 20 by 20 is placed relative to that
abbrev sliding_child : Desktop
sliding_child =
    commit 1 31 (asks 1 32 2 (Word 33 ∷ Word 15 ∷ Word 16 ∷ []) (asks 1 16 5 (Word 3 ∷ [])
    (asks 1 16 2 (Number (pos 0) ∷ Number (pos 0) ∷ Number (pos 8) ∷ Number (pos 8) ∷ [])
    (asks 1 16 1 (Number (pos 20) ∷ Number (pos 20) ∷ []) (get_xdg_surface 1 32 31 (create_surface 1 31 popped))))))

pub row_sliding_child : unsent 1 sliding_child ≡ event 33 0 24 (u32 4 ++ u32 4 ++ u32 20 ++ u32 20) ++ xdg_configure 32 3
unfolding tree applied_tree behaves_synchronised geometry_corner_at
row_sliding_child = refl

-- the positioner was copied: a change of it after get_popup is none of the popup's
abbrev copied : Desktop
copied = commit 1 14 (asks 1 16 0 [] (asks 1 16 1 (Number (pos 9) ∷ Number (pos 9) ∷ []) with_popup))

pub row_copied : unsent 1 copied ≡ delete_id 16 ++ event 17 0 24 (u32 40 ++ u32 40 ++ u32 8 ++ u32 8) ++ xdg_configure 15 2
unfolding tree applied_tree behaves_synchronised geometry_corner_at
row_copied = refl
