-- What is marked where one tree of surfaces changed, by the plain windows of the tree.
use Rattle.std.specs.Prelude.{ℕ, ℤ, ◌≡◌, pos, ◌==◌, nat_lt, ◌&&◌, ◌||◌, true, false, if◌then◌else◌, Option, List, ◌++◌, map}
use Rattle.std.specs.List.{All, list_all, list_any}
use Rattle.spec_desktop.specs.Desktop.{Desktop}
use Rattle.spec_desktop.specs.Marks.{Applied, AreDistinct, at_least, at_most, in_output, same_records}
use Rattle.spec_desktop.specs.Moments.{applied_between}
use Rattle.spec_desktop.specs.Stacked.{all_windows}
use Rattle.spec_desktop.specs.Windows.{Window}
use Rattle.wl_surface.specs.State.{is_damaged}
use Rattle.wl_surface.specs.declared.applied.Change.{Change}
use Rattle.law_desktop.specs.TreeMarksLaws.{AreUndamaged, among, has_root, is_in_any, is_struck_at}
use Rattle.law_desktop.specs.Marked.{marks_by_trees}
use Rattle.law_desktop.specs.Toplevel.{AreInTurn, ChangesToplevel}
use Rattle.wl_scene.specs.TreeWindows.{told_of}
use Rattle.wl_scene.specs.Repaint.{AreTogether, marks, marks_trees, same_windows}

-- The windows `was` and `is` are of the tree with this root of this client, and each transform is a number of wl_output.transform.
pub record AreOfTree (client root : ℕ) (was is : List Window) : Type 0 where
  pub rooted : list_all (has_root client root) (was ++ is) ≡ true
  pub numbered : list_all (λ w. nat_lt w.transform 8) (was ++ is) ≡ true

-- The damage that was applied to the window's surface, by points of the surface, is what these changes tell of it.
abbrev pub IsAppliedBy : {A : Type 0} → List (Change A) → Applied → Window → Type 0
IsAppliedBy changes applied w =
    (x y : ℕ) → applied w.owner.client w.surface (pos x) (pos y)
    ≡ list_any (λ c. (c.surface == w.surface) && is_damaged w.width w.height c.rects.items x y) changes

-- The windows of a tree are told to be the same where they keep their records.
abbrev pub SameAsRecords : Type 0
SameAsRecords =
    (client root : ℕ) (was is : List Window) → AreOfTree client root was is
    → same_windows (map told_of was) (map told_of is) ≡ same_records was is

-- What is marked of the told windows of a tree is, where the windows keep their records, the damage that was applied, each at its window's
-- corner, and where they don't, all points of the windows, before and after.
abbrev pub MarksAsApplied : Type 0 → Type 0
MarksAsApplied A =
    (client root : ℕ) (was is : List Window) → AreOfTree client root was is → (changes : List (Change A)) (applied : Applied)
    → All (IsAppliedBy changes applied) is → (x y : ℤ) → marks (map told_of was) (map told_of is) changes x y
    ≡ (if same_records was is then list_any (is_struck_at applied x y) is else (is_in_any x y was || is_in_any x y is))

-- A step changes the windows of one tree, from `was` to `is`, and damages no others: those below the tree and above it, none of which is of
-- the tree. No surface has two windows.
pub record ChangesOneTree (client root : ℕ) (below above was is : List Window) (applied : Applied) : Type 0 where
  pub of_tree : AreOfTree client root was is
  pub apart : list_any (has_root client root) (below ++ above) ≡ false
  pub before : AreDistinct (among below above was)
  pub after : AreDistinct (among below above is)
  pub undamaged : AreUndamaged applied (below ++ above)

-- What is marked of the told windows of the one tree that a step changes is all that the step has to mark, and in the output nothing that
-- it may not mark.
abbrev pub MarksBetween : Type 0 → Type 0
MarksBetween A =
    (client root : ℕ) (below above was is : List Window) (changes : List (Change A)) (applied : Applied)
    → ChangesOneTree client root below above was is applied → All (IsAppliedBy changes applied) is
    → (raised : Option (ℕ × ℕ)) (width height : ℕ) (x y : ℤ)
    → (at_least width height applied (among below above was) (among below above is) x y ≡ true
    → marks (map told_of was) (map told_of is) changes x y ≡ true)
    × ((in_output width height x y && marks (map told_of was) (map told_of is) changes x y) ≡ true
    → at_most width height applied raised (among below above was) (among below above is) x y ≡ true)

-- ---- several trees

-- The windows `was` and `is` are of this client, and each transform is a number of wl_output.transform.
pub record AreOfClient (client : ℕ) (was is : List Window) : Type 0 where
  pub owned : list_all (λ w. client == w.owner.client) (was ++ is) ≡ true
  pub numbered : list_all (λ w. nat_lt w.transform 8) (was ++ is) ≡ true

-- Windows whose trees stand one after another are told so that those of each tree stand together.
abbrev pub ToldTogether : Type 0
ToldTogether = (roots : List ℕ) (ws : List Window) → AreInTurn roots ws → AreTogether (map told_of ws)

-- What is marked of the told windows of several trees is what is marked of the plain ones tree by tree.
abbrev pub MarksTreesAsApplied : Type 0 → Type 0
MarksTreesAsApplied A =
    (client : ℕ) (was is : List Window) → AreOfClient client was is → (changes : List (Change A)) (applied : Applied)
    → All (IsAppliedBy changes applied) is → (x y : ℤ)
    → marks_trees (map told_of was) (map told_of is) changes x y ≡ marks_by_trees applied was is x y

-- What is marked of the told windows that are stacked with the one toplevel that a step changes is all that the step has to mark, and in
-- the output nothing that it may not mark.
abbrev pub MarksTreesBetween : Type 0 → Type 0
MarksTreesBetween A =
    (c toplevel : ℕ) (d e : Desktop) (step : ChangesToplevel c toplevel d e) → AreOfClient c step.was step.is → (changes : List (Change A))
    → All (IsAppliedBy changes (applied_between d e)) step.is → (raised : Option (ℕ × ℕ)) (width height : ℕ) (x y : ℤ)
    → (at_least width height (applied_between d e) (all_windows d) (all_windows e) x y ≡ true
    → marks_trees (map told_of step.was) (map told_of step.is) changes x y ≡ true)
    × ((in_output width height x y && marks_trees (map told_of step.was) (map told_of step.is) changes x y) ≡ true
    → at_most width height (applied_between d e) raised (all_windows d) (all_windows e) x y ≡ true)
