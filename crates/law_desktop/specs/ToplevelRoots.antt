-- Laws of which surfaces are the roots of the trees that are stacked with a toplevel (xdg-shell.xml, xdg_popup).
use Rattle.std.specs.Prelude.{◌≡◌, ◌&&◌, Bool, List, filter}
use Rattle.std.specs.List.{All, list_any}
use Rattle.wl_surface.specs.Surfaces.{Surfaces}
use Rattle.spec_desktop.specs.Windows.{Root, StackedPopup, corner_in, has_parent, roots_of}

-- the parent of the popup is one of these roots
abbrev pub has_parent_in : List Root → StackedPopup → Bool
has_parent_in roots p = list_any (λ r. has_parent r.surface p) roots

-- and it is mapped
abbrev pub is_on_one : List Root → StackedPopup → Bool
is_on_one roots p = p.is_mapped && has_parent_in roots p

-- the surfaces of these roots have their corners where they had them
abbrev pub CornersStay : Surfaces → Surfaces → List Root → Type 0
CornersStay old new roots = All (λ r. corner_in new r ≡ corner_in old r) roots

-- A toplevel keeps its roots where their surfaces keep their corners, and those popups that are mapped on one of them are the same, whatever
-- becomes of all others.
abbrev pub RootsStay : Type 0
RootsStay =
    (old new : Surfaces) (toplevel : Root) (popups others : List StackedPopup)
    → CornersStay old new (roots_of old toplevel popups)
    → filter (is_on_one (roots_of old toplevel popups)) others ≡ filter (is_on_one (roots_of old toplevel popups)) popups
    → roots_of new toplevel others ≡ roots_of old toplevel popups
