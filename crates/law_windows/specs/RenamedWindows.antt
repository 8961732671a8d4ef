-- The windows of a client's surfaces under other names (wayland.xml, wl_surface and wl_subsurface).
use Rattle.std.specs.Prelude.{ℕ, ◌≡◌, ◌==◌, Bool, true, List, map}
use Rattle.std.specs.List.{list_any}
use Rattle.law_desktop.specs.Renaming.{IsRenaming, has_surface, renamed}
use Rattle.spec_desktop.specs.Windows.{Owner, Place, Window, tree}
use Rattle.wl_surface.specs.Surfaces.{Surfaces}
use Rattle.wl_scene.specs.TreeWindows.{told_of, told_tree}
use Rattle.wl_scene.specs.declared.tree_window.TreeWindow.{TreeWindow}

-- ---- names

-- whose a window is, by the other names of the surfaces
abbrev pub renamed_owner : (ℕ → ℕ) → Owner → Owner
renamed_owner f owner = record owner { root = f owner.root; toplevel = f owner.toplevel }

-- a window under the other name of its surface
abbrev pub renamed_window : (ℕ → ℕ) → Window → Window
renamed_window f w = record w { owner = renamed_owner f w.owner; surface = f w.surface }

-- what is told of a window under the other names of its surface and of the root of its tree
abbrev pub told_by : (ℕ → ℕ) → Window → TreeWindow
told_by f w = record (told_of w) { surface = f w.surface; root = f w.owner.root }

-- None of the surfaces that are there gets the name of this one, but itself. It may be there or not.
abbrev pub IsNamedAlone : (ℕ → ℕ) → Surfaces → ℕ → Type 0
IsNamedAlone f all id = (a : ℕ) → has_surface a all ≡ true → f a ≡ f id → a ≡ id

-- ---- trees

-- Under other names the tree of a surface has the same windows, each under the other name of its surface (wayland.xml, wl_subsurface). A
-- child is found by its link, and a link by its number, which is no name; a link that has ended may name anything.
abbrev pub TreesHeedNoNames : Type 0
TreesHeedNoNames =
    (f : ℕ → ℕ) (all : Surfaces) → IsRenaming f all → (owner : Owner) (surface : ℕ) → IsNamedAlone f all surface
    → (levels : ℕ) (place : Place) → tree levels (renamed_owner f owner) (renamed f all) (f surface) place
    ≡ map (renamed_window f) (tree levels owner all surface place)

-- What is told of them is the same, but for the names of the surfaces, and whoever owns them, if the root of their tree goes by its name.
abbrev pub TellsTreesByName : Type 0
TellsTreesByName =
    (f : ℕ → ℕ) (all : Surfaces) → IsRenaming f all → (owner other : Owner) (surface : ℕ) → IsNamedAlone f all surface
    → other.root ≡ f owner.root → (levels : ℕ) (place : Place) → told_tree levels other (renamed f all) (f surface) place
    ≡ map (told_by f) (tree levels owner all surface place)

-- ---- whose windows they are

-- a surface has one of the windows
abbrev pub has_window : ℕ → List Window → Bool
has_window id ws = list_any (λ w. w.surface == id) ws

-- Each window of a tree is of a surface that is there.
abbrev pub ShowsThoseThere : Type 0
ShowsThoseThere =
    (all : Surfaces) (levels : ℕ) (owner : Owner) (surface : ℕ) (place : Place) (id : ℕ)
    → has_window id (tree levels owner all surface place) ≡ true → has_surface id all ≡ true
