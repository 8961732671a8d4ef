-- The windows stacked with a toplevel under other names of their surfaces (wayland.xml, wl_subsurface; xdg-shell.xml, xdg_popup).
use Rattle.std.specs.Prelude.{ℕ, ◌≡◌, Option, Some, None, List, [], find, flat_map, map}
use Rattle.std.specs.List.{All}
use Rattle.wl_surface.specs.Surfaces.{Surfaces}
use Rattle.spec_desktop.specs.Stacking.{Standing, is_of}
use Rattle.spec_desktop.specs.Windows.{Owner, Root, owner_of, tree}
use Rattle.spec_desktop.specs.Desktop.{Desktop, owned_in}
use Rattle.law_desktop.specs.Renaming.{IsRenaming, renamed}
use Rattle.wl_scene.specs.TreeWindows.{rooted, told_tree}
use Rattle.wl_scene.specs.declared.tree_window.TreeWindow.{TreeWindow}
use Rattle.wl_scene.specs.declared.roots.RootPlace.{RootPlace}
use Rattle.wl_scene.specs.Told.{told_trees}
use Rattle.law_desktop.specs.Changes.{HasTrees}
use Rattle.law_desktop.specs.StackedWith.{stacked_roots}
use Rattle.law_desktop.specs.Toplevel.{windows_with}
use Rattle.law_windows.specs.RenamedWindows.{IsNamedAlone, told_by}

-- what is told of the trees of these roots, one after another, where the surfaces have other names
abbrev pub told_roots : (ℕ → ℕ) → Owner → Surfaces → List Root → List TreeWindow
told_roots f owner all roots =
    flat_map (λ r. told_tree 17 (rooted (f r.surface) owner) (renamed f all) (f r.surface) r.place) roots

-- of those that are stacked with a toplevel of a client, where it stands
abbrev pub told_run : (ℕ → ℕ) → Owner → ℕ → Desktop → Option Standing → List TreeWindow
told_run f owner c d None = []
told_run f owner c d (Some s) = told_roots f owner (owned_in d c).surfaces (stacked_roots d s)

-- Under other names these trees have the same windows, told by the names of their surfaces and roots.
abbrev pub RootsHeedNoNames : Type 0
RootsHeedNoNames =
    (f : ℕ → ℕ) (all : Surfaces) (owner : Owner) (roots : List Root) → IsRenaming f all → All (λ r. IsNamedAlone f all r.surface) roots
    → told_roots f owner all roots ≡ map (told_by f) (flat_map (λ r. tree 17 (owner_of r) all r.surface r.place) roots)

-- So have those that are stacked with a toplevel.
abbrev pub RunsHeedNoNames : Type 0
RunsHeedNoNames =
    (f : ℕ → ℕ) (owner : Owner) (c toplevel : ℕ) (d : Desktop) → HasTrees d → IsRenaming f (owned_in d c).surfaces
    → told_run f owner c d (find (is_of c toplevel) d.standing) ≡ map (told_by f) (windows_with c toplevel d)

-- where a root is placed, by the other name of its surface
abbrev pub root_placed : (ℕ → ℕ) → Root → RootPlace
root_placed f r = record { surface = f r.surface; x = r.place.x; y = r.place.y }

-- those that are stacked with a toplevel, where it stands
abbrev pub roots_placed : (ℕ → ℕ) → Desktop → Option Standing → List RootPlace
roots_placed f d None = []
roots_placed f d (Some s) = map (root_placed f) (stacked_roots d s)

-- So the trees of the roots that are placed there have its windows.
abbrev pub PlacedRootsHaveRuns : Type 0
PlacedRootsHaveRuns =
    (f : ℕ → ℕ) (owner : Owner) (c toplevel : ℕ) (d : Desktop) → HasTrees d → IsRenaming f (owned_in d c).surfaces
    → told_trees owner (renamed f (owned_in d c).surfaces) (roots_placed f d (find (is_of c toplevel) d.standing))
    ≡ map (told_by f) (windows_with c toplevel d)
