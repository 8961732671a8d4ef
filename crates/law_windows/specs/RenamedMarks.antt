-- What is marked where one tree of surfaces changed, of windows that are told under other names of their surfaces.
use Rattle.std.specs.Prelude.{ℕ, ℤ, ◌≡◌, pos, ◌==◌, ◌&&◌, ◌||◌, true, if◌then◌else◌, Option, List, map}
use Rattle.std.specs.List.{All, list_any}
use Rattle.spec_desktop.specs.Marks.{Applied, at_least, at_most, in_output, same_records}
use Rattle.law_windows.specs.RepaintLaws.{AreOfTree, ChangesOneTree}
use Rattle.wl_scene.specs.Repaint.{marks, same_windows}
use Rattle.spec_desktop.specs.Windows.{Window}
use Rattle.wl_surface.specs.State.{is_damaged}
use Rattle.wl_surface.specs.declared.applied.Change.{Change}
use Rattle.law_desktop.specs.TreeMarksLaws.{among, is_in_any, is_struck_at}
use Rattle.law_windows.specs.RenamedWindows.{has_window, told_by}

-- A surface with a window before and one with a window after have the same name only where they are the same.
abbrev pub AreNamedApart : (ℕ → ℕ) → List Window → List Window → Type 0
AreNamedApart f was is = (a b : ℕ) → has_window a was ≡ true → has_window b is ≡ true → f a ≡ f b → a ≡ b

-- The damage that was applied to the window's surface, by points of the surface, is what these changes tell of it under its name.
abbrev pub IsAppliedByName : {A : Type 0} → (ℕ → ℕ) → List (Change A) → Applied → Window → Type 0
IsAppliedByName f changes applied w =
    (x y : ℕ) → applied w.owner.client w.surface (pos x) (pos y)
    ≡ list_any (λ c. (c.surface == f w.surface) && is_damaged w.width w.height c.rects.items x y) changes

-- The windows of a tree are told by name to be the same where they keep their records.
abbrev pub SameByName : Type 0
SameByName =
    (f : ℕ → ℕ) (client root : ℕ) (was is : List Window) → AreOfTree client root was is → AreNamedApart f was is
    → same_windows (map (told_by f) was) (map (told_by f) is) ≡ same_records was is

-- What is marked of windows that are told by name is, where they keep their records, the damage that was applied, each at its window's
-- corner, and where they don't, all points of the windows, before and after.
abbrev pub MarksAppliedByName : Type 0 → Type 0
MarksAppliedByName A =
    (f : ℕ → ℕ) (client root : ℕ) (was is : List Window) → AreOfTree client root was is → AreNamedApart f was is
    → (changes : List (Change A)) (applied : Applied) → All (IsAppliedByName f changes applied) is → (x y : ℤ)
    → marks (map (told_by f) was) (map (told_by f) is) changes x y
    ≡ (if same_records was is then list_any (is_struck_at applied x y) is else (is_in_any x y was || is_in_any x y is))

-- What is marked of the one tree that a step changes, with its windows told by name, is all that the step has to mark, and in the output
-- nothing that it may not mark.
abbrev pub MarksBetweenByName : Type 0 → Type 0
MarksBetweenByName A =
    (f : ℕ → ℕ) (client root : ℕ) (below above was is : List Window) (changes : List (Change A)) (applied : Applied)
    → ChangesOneTree client root below above was is applied → AreNamedApart f was is → All (IsAppliedByName f changes applied) is
    → (raised : Option (ℕ × ℕ)) (width height : ℕ) (x y : ℤ)
    → (at_least width height applied (among below above was) (among below above is) x y ≡ true
    → marks (map (told_by f) was) (map (told_by f) is) changes x y ≡ true)
    × ((in_output width height x y && marks (map (told_by f) was) (map (told_by f) is) changes x y) ≡ true
    → at_most width height applied raised (among below above was) (among below above is) x y ≡ true)
