-- What is marked where the windows stacked with one toplevel changed, tree by tree (wayland.xml, wl_surface.damage and wl_subsurface;
-- xdg-shell.xml, xdg_popup).
use Rattle.std.specs.Prelude.{ℕ, ℤ, ◌≡◌, ◌&&◌, ◌||◌, Bool, true, if◌then◌else◌, Option, List, ◌++◌}
use Rattle.std.specs.List.{list_any}
use Rattle.spec_desktop.specs.Windows.{Window}
use Rattle.spec_desktop.specs.Desktop.{Desktop}
use Rattle.spec_desktop.specs.Marks.{Applied, at_least, at_most, in_output, same_records}
use Rattle.spec_desktop.specs.Moments.{applied_between}
use Rattle.spec_desktop.specs.Stacked.{all_windows}
use Rattle.law_desktop.specs.TreeMarksLaws.{is_in_any, is_struck_at}
use Rattle.law_desktop.specs.Toplevel.{ChangesToplevel, of_root}

-- Of one tree, by its windows before and after: where they keep their records, the damage that was applied, each at its window's corner;
-- else all points of the windows, before and after.
abbrev pub marks_of_tree : Applied → List Window → List Window → ℤ → ℤ → Bool
marks_of_tree applied was is x y =
    if same_records was is then list_any (is_struck_at applied x y) is else is_in_any x y was || is_in_any x y is

-- Of several trees, what is marked of the tree of each window.
abbrev pub marks_by_trees : Applied → List Window → List Window → ℤ → ℤ → Bool
marks_by_trees applied was is x y =
    list_any (λ w. marks_of_tree applied (of_root w.owner.root was) (of_root w.owner.root is) x y) (was ++ is)

-- Where a step changes the windows stacked with one toplevel, what is marked of them tree by tree is all that the step has to mark, and in
-- the output nothing that it may not mark.
abbrev pub MarksByTreesBetween : Type 0
MarksByTreesBetween =
    (c toplevel : ℕ) (d e : Desktop) (step : ChangesToplevel c toplevel d e) (raised : Option (ℕ × ℕ)) (width height : ℕ) (x y : ℤ)
    → (at_least width height (applied_between d e) (all_windows d) (all_windows e) x y ≡ true
    → marks_by_trees (applied_between d e) step.was step.is x y ≡ true)
    × ((in_output width height x y && marks_by_trees (applied_between d e) step.was step.is x y) ≡ true
    → at_most width height (applied_between d e) raised (all_windows d) (all_windows e) x y ≡ true)
