-- The windows of a tree of surfaces, as they are told, and those of its parts (wayland.xml, wl_subcompositor and wl_subsurface).
use Rattle.std.specs.Prelude.{ℕ, ℤ, ◌+ℤ◌, ◌≡◌, List, [], ◌∷◌, ◌++◌, map, Option, Some, None, option_and_then}
use Rattle.wl_links.specs.declared.placed.Member.{Member}
use Rattle.wl_links.specs.declared.placed.Member.TheVariants.{Itself, Child}
use Rattle.wl_links.specs.declared.placed.Placed.{Placed}
use Rattle.spec_desktop.specs.Windows.{Owner, Place, Window, corner_at, tree}
use Rattle.wl_surface.specs.Request.{Buffer}
use Rattle.wl_surface.specs.State.{History, Values, applied, height_of, width_of}
use Rattle.wl_store.specs.Transform.{transform_of}
use Rattle.wl_surface.specs.Surfaces.{Surfaces, history_in}
use Rattle.wl_scene.specs.declared.tree_window.Spot.{Spot}
use Rattle.wl_scene.specs.declared.tree_window.TreeWindow.{TreeWindow}

-- what is told of a window
abbrev pub told_of : Window → TreeWindow
told_of w =
    record {
      surface = w.surface;
      root = w.owner.root;
      x = w.corner.x;
      y = w.corner.y;
      w = w.width;
      h = w.height;
      transform = transform_of w.transform;
      scale = w.scale;
    }

-- whose the windows of the tree with this root are
abbrev pub rooted : ℕ → Owner → Owner
rooted root owner = record owner { root = root }

-- the windows of a tree, down to so many levels
abbrev pub told_tree : ℕ → Owner → Surfaces → ℕ → Place → List TreeWindow
told_tree levels owner all surface place = map told_of (tree levels owner all surface place)

-- the window of a surface of the tree with this root, with its corner there, if it shows a buffer
abbrev pub window_with : ℕ → ℕ → Place → Values → Option Buffer → Option TreeWindow
window_with root surface corner v None = None
window_with root surface corner v (Some buffer) =
    Some
    (record {
      surface = surface;
      root = root;
      x = corner.x;
      y = corner.y;
      w = width_of (Some buffer) v.transform v.scale;
      h = height_of (Some buffer) v.transform v.scale;
      transform = transform_of v.transform;
      scale = v.scale;
    })

abbrev pub window_in : ℕ → ℕ → Place → History → Option TreeWindow
window_in root surface place h = window_with root surface (corner_at place h) (applied h) (applied h).buffer

-- the window of a surface that is placed there, if it is there and shows a buffer
abbrev pub window_at : Surfaces → ℕ → ℕ → Place → Option TreeWindow
window_at all root surface place = option_and_then (window_in root surface place) (history_in surface all)

-- a position from a corner
abbrev pub place_beside : Spot → Place
place_beside spot = record { x = spot.corner.x +ℤ spot.position.x; y = spot.corner.y +ℤ spot.position.y }

-- what stands at one place in the stack of a surface with this window: the window itself, or the windows of a child
abbrev pub member_windows : (ℕ → Place → List TreeWindow) → TreeWindow → ℤ → ℤ → Member → List TreeWindow
member_windows tree_of window x y Itself = window ∷ []
member_windows tree_of window x y (Child child) = tree_of child (record { x = window.x +ℤ x; y = window.y +ℤ y })

abbrev pub placed_windows : (ℕ → Place → List TreeWindow) → TreeWindow → Placed → List TreeWindow
placed_windows tree_of window p = member_windows tree_of window p.x p.y p.member

-- some more came behind, or none
abbrev pub Continues : List TreeWindow → List TreeWindow → Type 0
Continues old new = (more : List TreeWindow) × (new ≡ old ++ more)
