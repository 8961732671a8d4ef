-- A toplevel that is raised or moved, with its popups (wayland.xml, wl_pointer.button; xdg-shell.xml, xdg_toplevel.move and xdg_popup).
use Rattle.std.specs.Prelude.{ℕ, ◌≡◌, true, not, List, [], ◌++◌, filter}
use Rattle.std.specs.List.{list_any}
use Rattle.spec_desktop.specs.Stacking.{is_of, moved_to, raised}
use Rattle.spec_desktop.specs.Windows.{Place}
use Rattle.spec_desktop.specs.Desktop.{Desktop, owned_in}
use Rattle.spec_desktop.specs.Stacked.{all_windows}
use Rattle.law_desktop.specs.Shown.{ShownStand}
use Rattle.law_desktop.specs.Renaming.{AreToldApart}
use Rattle.wl_surface.specs.declared.applied.Change.{Change}
use Rattle.law_desktop.specs.Changes.{HasTrees}
use Rattle.law_desktop.specs.Toplevel.{ChangesToplevel, has_toplevel, windows_with}
use Rattle.law_windows.specs.Runs.Demands.{ChangesRun}

-- the desktop on which the toplevel of this surface is on top of the others
abbrev pub lifted : ℕ → ℕ → Desktop → Desktop
lifted c surface d = record d { standing = raised c surface d.standing }

-- the desktop on which it stands there
abbrev pub shifted : ℕ → ℕ → Place → Desktop → Desktop
shifted c surface place d = record d { standing = moved_to c surface place d.standing }

-- Toplevels, popups and subsurfaces make trees, and just the mapped toplevels stand.
pub record IsWhole (d : Desktop) : Type 0 where
  pub trees : HasTrees d
  pub shown : ShownStand d

-- They do so still where a toplevel was raised, or moved.
abbrev pub StaysWhole : Type 0
StaysWhole =
    (c toplevel : ℕ) (place : Place) (d : Desktop) → IsWhole d → IsWhole (lifted c toplevel d) × IsWhole (shifted c toplevel place d)

-- The windows stacked with a toplevel are those of all that are.
abbrev pub RunIsOfAll : Type 0
RunIsOfAll =
    (c toplevel : ℕ) (d : Desktop) → HasTrees d → filter (λ w. has_toplevel c toplevel w) (all_windows d) ≡ windows_with c toplevel d

-- Where it is raised its popups are raised with it: the windows that are stacked with it come on top of the others.
abbrev pub RaisesLiftRuns : Type 0
RaisesLiftRuns =
    (c toplevel : ℕ) (d : Desktop) → HasTrees d
    → all_windows (lifted c toplevel d)
    ≡ filter (λ w. not (has_toplevel c toplevel w)) (all_windows d) ++ filter (λ w. has_toplevel c toplevel w) (all_windows d)

-- Where it is moved its popups move with it, and nothing else changes.
abbrev pub MovesChangeOneToplevel : Type 0
MovesChangeOneToplevel =
    (c toplevel : ℕ) (place : Place) (d : Desktop) → IsWhole d → list_any (is_of c toplevel) d.standing ≡ true
    → ChangesToplevel c toplevel d (shifted c toplevel place d)

-- What is marked of them tree by tree, without any damage, is all that has to be marked, and in the output nothing that may not be.
abbrev pub MovesAreMarked : Type 0 → Type 0
MovesAreMarked A =
    (c toplevel : ℕ) (place : Place) (d : Desktop) (f : ℕ → ℕ) (changes : List (Change A)) → changes ≡ [] → IsWhole d
    → list_any (is_of c toplevel) d.standing ≡ true → AreToldApart f (owned_in d c).surfaces
    → ChangesRun c toplevel d (shifted c toplevel place d) f changes
