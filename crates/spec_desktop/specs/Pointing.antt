-- What clients are told of the pointer (wayland.xml, wl_pointer).
use Rattle.std.specs.Prelude.{ℕ, ℤ, Bool, true, false, if◌then◌else◌, Option, Some, None, List, [], ◌∷◌, flat_map, is_some}
use Rattle.wl_wire.specs.Wire.{Word, Number}
use Rattle.wl_proto.specs.declared.interface.Interface.TheVariants.{WlPointer}
use Rattle.wl_proto.specs.Messages.{says}
use Rattle.spec_desktop.specs.Told.{Said, said}
use Rattle.wl_surface.specs.Surfaces.{history_in}
use Rattle.spec_desktop.specs.Pointer.{Target, fixed_from}
use Rattle.spec_desktop.specs.Stacking.{Standing, moved_to}
use Rattle.spec_desktop.specs.Windows.{Place, Window, moved}
use Rattle.spec_desktop.specs.Desktop.{Resident}
use Rattle.spec_desktop.specs.Popups.{standing_place}
use Rattle.spec_desktop.specs.Replies.{entered_at}

-- An event of each wl_pointer of a client, in rising id.
abbrev pub to_pointers : (ℕ → List Said) → Resident → List Said
to_pointers event r = flat_map event r.pointers

abbrev pub has_pointers : Resident → Bool
has_pointers r = some_of r.pointers
  where
    some_of : List ℕ → Bool
    some_of [] = false
    some_of (p ∷ ps) = true

-- wl_pointer.leave: a surface that is gone gets none
abbrev pub left_surface : ℕ → Resident → List Said
left_surface surface r =
    if is_some (history_in surface r.owned.surfaces)
    then to_pointers (λ pointer. said pointer (says WlPointer 1 (Word r.peer.serial ∷ Word surface ∷ [])) ∷ []) r
    else []

-- wl_pointer.enter
abbrev pub entered_surface : Option Place → Option Window → Resident → List Said
entered_surface at w r = to_pointers (λ pointer. entered_at pointer r.peer.serial at w) r

-- wl_pointer.motion: the point relative to the surface's corner
abbrev pub motion_at : ℕ → Option Place → Option Window → ℕ → List Said
motion_at time None w pointer = []
motion_at time (Some at) None pointer = []
motion_at time (Some at) (Some w) pointer =
    said pointer (says WlPointer 2 (Word time ∷ Number (fixed_from at.x w.corner.x) ∷ Number (fixed_from at.y w.corner.y) ∷ [])) ∷ []

abbrev pub motion_told : ℕ → Option Place → Option Window → Resident → List Said
motion_told time at w r = to_pointers (motion_at time at w) r

-- wl_pointer.button: 1 for a press, 0 for a release
abbrev pub button_told : ℕ → ℕ → ℕ → Resident → List Said
button_told time button pressed r =
    to_pointers (λ pointer. said pointer (says WlPointer 3 (Word r.peer.serial ∷ Word time ∷ Word button ∷ Word pressed ∷ [])) ∷ []) r

-- ---- a toplevel is moved with the pointer

abbrev pub moved_standing : Target → ℤ → ℤ → List Standing → List Standing
moved_standing t x y standing = moved_to t.client t.surface (moved (standing_place standing t.client t.surface) x y) standing
