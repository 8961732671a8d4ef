-- Requests of subsurfaces, cursors and popups that are refused, computed on the definitions.
use Rattle.std.proofs.Common.{◌≡◌, ℕ, [], ◌∷◌, ◌++◌, Some, None, refl}
use Rattle.std.specs.Prelude.{ℤ, pos, negsuc}
use Rattle.wl_wire.specs.Wire.{Word, Number}
use Rattle.spec_desktop.specs.declared.cause.Cause.TheVariants.{Protocol}
use Rattle.wl_surface.specs.Trees.{applied_tree, behaves_synchronised, depth, descends_from, height}
use Rattle.spec_desktop.specs.Windows.{tree}
use Rattle.spec_desktop.specs.Desktop.{Desktop}
use Rattle.test_definitions.proofs.Steps.{asks, create_surface, get_xdg_surface, shown, start, status, unsent, with_pointer, delete_id}
use Rattle.test_definitions.proofs.Popups.{with_popup, with_positioner}
use Rattle.test_definitions.proofs.Subsurfaces.{with_subsurface}

-- ---- wl_subcompositor.get_subsurface, of the surface `child` below `parent`

abbrev subsurface : ℕ → ℕ → ℕ → Desktop → Desktop
subsurface id child parent d = asks 1 15 1 (Word id ∷ Word child ∷ Word parent ∷ []) d

abbrev more : Desktop
more = create_surface 1 31 (create_surface 1 30 with_subsurface)

-- of a surface with a wl_subsurface, a toplevel, or an xdg_surface
pub row_linked : status 1 (subsurface 21 14 6 with_subsurface) ≡ Some (Protocol 15 0)
unfolding tree applied_tree behaves_synchronised depth descends_from height
row_linked = refl

pub row_toplevel : status 1 (subsurface 21 6 14 with_subsurface) ≡ Some (Protocol 15 0)
unfolding tree applied_tree behaves_synchronised depth descends_from height
row_toplevel = refl

pub row_xdg_surface : status 1 (subsurface 21 30 6 (get_xdg_surface 1 22 30 more)) ≡ Some (Protocol 15 0)
unfolding tree applied_tree behaves_synchronised depth descends_from height
row_xdg_surface = refl

-- below itself, or below what descends from it
pub row_itself : status 1 (subsurface 21 30 30 more) ≡ Some (Protocol 15 1)
unfolding tree applied_tree behaves_synchronised depth descends_from height
row_itself = refl

pub row_descendant : status 1 (subsurface 22 30 31 (subsurface 21 31 30 more)) ≡ Some (Protocol 15 1)
unfolding tree applied_tree behaves_synchronised depth descends_from height
row_descendant = refl

-- beside itself or a stranger; a sibling may stand there whose link doesn't count yet
pub row_beside_itself : status 1 (asks 1 16 2 (Word 14 ∷ []) more) ≡ Some (Protocol 16 0)
unfolding tree applied_tree behaves_synchronised depth descends_from height
row_beside_itself = refl

pub row_beside_stranger : status 1 (asks 1 16 3 (Word 30 ∷ []) more) ≡ Some (Protocol 16 0)
unfolding tree applied_tree behaves_synchronised depth descends_from height
row_beside_stranger = refl

pub row_beside_sibling : status 1 (asks 1 16 2 (Word 30 ∷ []) (subsurface 21 30 6 more)) ≡ None
unfolding tree applied_tree behaves_synchronised depth descends_from height
row_beside_sibling = refl

-- the parent goes: the wl_subsurface does nothing any more, and its surface gets no other while it lives
abbrev inert : Desktop
inert = asks 1 30 0 [] (subsurface 21 31 30 more)

pub row_inert : status 1 (asks 1 21 5 [] (asks 1 21 2 (Word 6 ∷ []) inert)) ≡ None
unfolding tree applied_tree behaves_synchronised depth descends_from height
row_inert = refl

pub row_inert-linked : status 1 (subsurface 22 31 6 inert) ≡ Some (Protocol 15 0)
unfolding tree applied_tree behaves_synchronised depth descends_from height
row_inert-linked = refl

pub row_inert-gone : status 1 (subsurface 22 31 6 (asks 1 21 0 [] inert)) ≡ None
unfolding tree applied_tree behaves_synchronised depth descends_from height
row_inert-gone = refl

-- ---- wl_seat and wl_pointer

abbrev seated : Desktop
seated = with_pointer 1 more

pub row_keyboard : status 1 (asks 1 12 1 (Word 22 ∷ []) seated) ≡ Some (Protocol 12 0)
unfolding tree applied_tree behaves_synchronised depth descends_from height
row_keyboard = refl

pub row_touch : status 1 (asks 1 12 2 (Word 22 ∷ []) seated) ≡ Some (Protocol 12 0)
unfolding tree applied_tree behaves_synchronised depth descends_from height
row_touch = refl

pub row_keyboard-in-use : status 1 (asks 1 12 1 (Word 13 ∷ []) seated) ≡ Some (Protocol 1 0)
unfolding tree applied_tree behaves_synchronised depth descends_from height
row_keyboard-in-use = refl

-- wl_pointer.set_cursor
abbrev cursor : ℕ → Desktop → Desktop
cursor surface d = asks 1 13 0 (Word 1 ∷ Word surface ∷ Number (pos 0) ∷ Number (pos 0) ∷ []) d

pub row_cursor_toplevel : status 1 (cursor 6 seated) ≡ Some (Protocol 13 0)
unfolding tree applied_tree behaves_synchronised depth descends_from height
row_cursor_toplevel = refl

pub row_cursor_subsurface : status 1 (cursor 14 seated) ≡ Some (Protocol 13 0)
unfolding tree applied_tree behaves_synchronised depth descends_from height
row_cursor_subsurface = refl

pub row_cursor_xdg_surface : status 1 (cursor 30 (get_xdg_surface 1 22 30 seated)) ≡ Some (Protocol 13 0)
unfolding tree applied_tree behaves_synchronised depth descends_from height
row_cursor_xdg_surface = refl

pub row_cursor : status 1 (cursor 0 (cursor 30 (cursor 30 seated))) ≡ None
unfolding tree applied_tree behaves_synchronised depth descends_from height
row_cursor = refl

pub row_cursor-xdg : status 1 (get_xdg_surface 1 22 30 (cursor 30 seated)) ≡ Some (Protocol 5 0)
unfolding tree applied_tree behaves_synchronised depth descends_from height
row_cursor-xdg = refl

pub row_cursor-subsurface : status 1 (subsurface 22 30 6 (cursor 30 seated)) ≡ Some (Protocol 15 0)
unfolding tree applied_tree behaves_synchronised depth descends_from height
row_cursor-subsurface = refl

-- ---- xdg_positioner

abbrev positioned : Desktop
positioned = with_positioner (shown 1 start)

pub row_size : status 1 (asks 1 16 1 (Number (pos 0) ∷ Number (pos 1) ∷ []) positioned) ≡ Some (Protocol 16 0)
unfolding tree applied_tree behaves_synchronised
row_size = refl

pub row_rectangle : status 1 (asks 1 16 2 (Number (pos 0) ∷ Number (pos 0) ∷ Number (negsuc 0) ∷ Number (pos 1) ∷ []) positioned) ≡ Some (Protocol 16 0)
unfolding tree applied_tree behaves_synchronised
row_rectangle = refl

pub row_anchor : status 1 (asks 1 16 3 (Word 9 ∷ []) positioned) ≡ Some (Protocol 16 0)
unfolding tree applied_tree behaves_synchronised
row_anchor = refl

pub row_gravity : status 1 (asks 1 16 4 (Word 9 ∷ []) positioned) ≡ Some (Protocol 16 0)
unfolding tree applied_tree behaves_synchronised
row_gravity = refl

pub row_adjustment : status 1 (asks 1 16 5 (Word 4294967295 ∷ []) positioned) ≡ None
unfolding tree applied_tree behaves_synchronised
row_adjustment = refl

pub row_positioner_gone : unsent 1 (asks 1 16 0 [] positioned) ≡ delete_id 16
unfolding tree applied_tree behaves_synchronised
row_positioner_gone = refl

-- ---- xdg_surface.get_popup

-- of the xdg_surface 22 of a surface 30
abbrev popup : ℕ → ℕ → Desktop → Desktop
popup parent positioner d = asks 1 22 2 (Word 23 ∷ Word parent ∷ Word positioner ∷ []) (get_xdg_surface 1 22 30 (create_surface 1 30 d))

pub row_popup : status 1 (popup 7 16 positioned) ≡ None
unfolding tree applied_tree behaves_synchronised
row_popup = refl

pub row_popup-null : status 1 (popup 0 16 positioned) ≡ Some (Protocol 5 3)
unfolding tree applied_tree behaves_synchronised
row_popup-null = refl

pub row_popup-itself : status 1 (popup 22 16 positioned) ≡ Some (Protocol 5 3)
unfolding tree applied_tree behaves_synchronised
row_popup-itself = refl

pub row_popup-unset : status 1 (popup 7 24 (asks 1 5 1 (Word 24 ∷ []) positioned)) ≡ Some (Protocol 5 5)
unfolding tree applied_tree behaves_synchronised
row_popup-unset = refl

-- a rectangle without points counts as not set, also after another; one without width is set
abbrev rectangle : ℤ → Desktop
rectangle h = asks 1 16 2 (Number (pos 0) ∷ Number (pos 0) ∷ Number (pos 0) ∷ Number h ∷ []) positioned

pub row_popup-nothing : status 1 (popup 7 16 (rectangle (pos 0))) ≡ Some (Protocol 5 5)
unfolding tree applied_tree behaves_synchronised
row_popup-nothing = refl

pub row_popup-line : status 1 (popup 7 16 (rectangle (pos 5))) ≡ None
unfolding tree applied_tree behaves_synchronised
row_popup-line = refl

-- one role object at a time, and the role stays
pub row_popup-again : status 1 (asks 1 22 2 (Word 24 ∷ Word 0 ∷ Word 16 ∷ []) (popup 7 16 positioned)) ≡ Some (Protocol 22 2)
unfolding tree applied_tree behaves_synchronised
row_popup-again = refl

pub row_popup-after : status 1 (asks 1 22 2 (Word 24 ∷ Word 7 ∷ Word 16 ∷ []) (asks 1 23 0 [] (popup 7 16 positioned))) ≡ None
unfolding tree applied_tree behaves_synchronised
row_popup-after = refl

pub row_popup-toplevel : status 1 (asks 1 22 1 (Word 24 ∷ []) (asks 1 23 0 [] (popup 7 16 positioned))) ≡ Some (Protocol 5 0)
unfolding tree applied_tree behaves_synchronised
row_popup-toplevel = refl

pub row_toplevel-popup : status 1 (asks 1 7 2 (Word 24 ∷ Word 22 ∷ Word 16 ∷ []) (asks 1 8 0 [] (popup 7 16 positioned))) ≡ Some (Protocol 5 0)
unfolding tree applied_tree behaves_synchronised
row_toplevel-popup = refl

pub row_popup-kept : status 1 (asks 1 22 0 [] (popup 7 16 positioned)) ≡ Some (Protocol 22 6)
unfolding tree applied_tree behaves_synchronised
row_popup-kept = refl

-- the parent of a popup stays while that lives, but for a toplevel
pub row_popup-parent : status 1 (asks 1 17 0 [] (popup 15 16 with_popup)) ≡ Some (Protocol 5 2)
unfolding tree applied_tree behaves_synchronised
row_popup-parent = refl

pub row_popup-topmost : unsent 1 (asks 1 17 0 [] (asks 1 23 0 [] (popup 15 16 with_popup))) ≡ delete_id 23 ++ delete_id 17
unfolding tree applied_tree behaves_synchronised
row_popup-topmost = refl
