-- The windows of a toplevel, as they are kept and as they are told where it is moved.
use Rattle.std.specs.Prelude.{ℕ, ℤ, List, [], map}
use Rattle.wl_scene.specs.Marking.{AddsPoints}
use Rattle.wl_paint.specs.Damage.{Damaged}
use Rattle.wl_scene.specs.Repaint.{AreTogether, marks_trees}
use Rattle.wl_scene.specs.Roots.{standing_at, told_root}
use Rattle.wl_scene.specs.Stacked.{run_of}
use Rattle.wl_scene.specs.Told.{told_trees}
use Rattle.wl_scene.specs.declared.stacked.Stacked.{Stacked}
use Rattle.spec_desktop.specs.Popups.{stacked_popups}
use Rattle.spec_desktop.specs.Stacking.{Owned, root_of}
use Rattle.spec_desktop.specs.Windows.{Owner, roots_of}
use Rattle.wl_scene.specs.declared.tree_window.TreeWindow.{TreeWindow}

-- what these that are kept tell of their windows
abbrev pub windows_told : List Stacked → List TreeWindow
windows_told ss = map (λ s. s.window) ss

-- what those do that are stacked with a toplevel
abbrev pub run_told : ℕ → ℕ → List Stacked → List TreeWindow
run_told client toplevel all = windows_told (run_of client toplevel all)

-- the windows of the tree of a toplevel that stands there, and of those of its popups that are shown (xdg-shell.xml, xdg_popup)
abbrev pub trees_at : Owned → Owner → ℕ → ℕ → ℤ → ℤ → List TreeWindow
trees_at o owner client toplevel x y =
    told_trees owner o.surfaces
    (map told_root (roots_of o.surfaces (root_of (λ _. o) (standing_at client toplevel x y)) (stacked_popups o)))

-- Of these windows, before and after, in which those of each tree stand together, all points of those trees are to be painted too that
-- changed, and no others.
abbrev pub MarksRuns : Type 0 → List TreeWindow → List TreeWindow → Damaged → Damaged → Type 0
MarksRuns A was is old new = AreTogether was → AreTogether is → AddsPoints (marks_trees {A = A} was is []) old new
