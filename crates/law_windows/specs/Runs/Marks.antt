-- What is marked of the windows stacked with one toplevel that a step changes, told by other names of their surfaces (wayland.xml,
-- wl_surface.damage and wl_subsurface; xdg-shell.xml, xdg_popup).
use Rattle.std.specs.Prelude.{ℕ, ℤ, ◌≡◌, ◌<◌, ◌&&◌, ◌||◌, pos, true, false, Option, List, [], ◌++◌, map}
use Rattle.std.specs.List.{All, list_any}
use Rattle.wl_paint.specs.Damage.{Damaged, has}
use Rattle.wl_scene.specs.Marking.{AddsPoints}
use Rattle.wl_surface.specs.Surfaces.{Surfaces}
use Rattle.wl_surface.specs.declared.applied.Change.{Change}
use Rattle.spec_desktop.specs.Windows.{Window}
use Rattle.spec_desktop.specs.Desktop.{Desktop, owned_in}
use Rattle.spec_desktop.specs.Marks.{Applied, in_output}
use Rattle.spec_desktop.specs.Moments.{applied_between, marks_at_least, marks_at_most}
use Rattle.law_desktop.specs.Shown.{ShownStand}
use Rattle.law_desktop.specs.Renaming.{AreToldApart, has_surface}
use Rattle.law_desktop.specs.Marked.{marks_by_trees}
use Rattle.law_desktop.specs.Toplevel.{AreInTurn, ChangesToplevel, windows_with}
use Rattle.law_windows.specs.RepaintLaws.{AreOfClient}
use Rattle.wl_scene.specs.Repaint.{AreTogether, marks_trees, window_has}
use Rattle.law_windows.specs.RenamedMarks.{IsAppliedByName}
use Rattle.law_windows.specs.RenamedWindows.{told_by}
use Rattle.law_windows.specs.Telling.{TellsTrees}

-- the surface of the window, and the root of its tree, are among these surfaces
abbrev pub IsThereIn : Surfaces → Window → Type 0
IsThereIn all w = (has_surface w.surface all ≡ true) × (has_surface w.owner.root all ≡ true)

-- each surface that is there afterwards was there before
abbrev pub NoneComes : Surfaces → Surfaces → Type 0
NoneComes old new = (surface : ℕ) → has_surface surface new ≡ true → has_surface surface old ≡ true

-- ---- names

-- Windows whose trees stand one after another are told by names so that those of each tree stand together.
abbrev pub ToldTogetherByName : Type 0
ToldTogetherByName =
    (f : ℕ → ℕ) (all : Surfaces) (roots : List ℕ) (ws : List Window) → AreToldApart f all → All (IsThereIn all) ws → AreInTurn roots ws
    → AreTogether (map (told_by f) ws)

-- What is marked of the windows of several trees, told by name, is what is marked of the plain ones tree by tree.
abbrev pub MarksTreesByName : Type 0 → Type 0
MarksTreesByName A =
    (f : ℕ → ℕ) (all : Surfaces) (client : ℕ) (was is : List Window) → AreToldApart f all → All (IsThereIn all) (was ++ is)
    → AreOfClient client was is → (changes : List (Change A)) (applied : Applied) → All (IsAppliedByName f changes applied) is → (x y : ℤ)
    → marks_trees (map (told_by f) was) (map (told_by f) is) changes x y ≡ marks_by_trees applied was is x y

-- ---- the windows stacked with a toplevel

-- They are of surfaces that their client has, in trees of such.
abbrev pub RunsAreThere : Type 0
RunsAreThere = (c toplevel : ℕ) (d : Desktop) → All (IsThereIn (owned_in d c).surfaces) (windows_with c toplevel d)

-- Where just the mapped toplevels stand, before and after, those that change are of one client, and each is turned in one of the eight
-- ways.
abbrev pub RunsAreOfClient : Type 0
RunsAreOfClient =
    (c toplevel : ℕ) (d e : Desktop) (step : ChangesToplevel c toplevel d e) → ShownStand d → ShownStand e → AreOfClient c step.was step.is

-- Where the changes tell by name the damage that is applied to the surfaces of the client, they tell it of the windows that the toplevel
-- has afterwards.
abbrev pub RunIsTold : Type 0 → Type 0
RunIsTold A =
    (c toplevel : ℕ) (d e : Desktop) (step : ChangesToplevel c toplevel d e) (f : ℕ → ℕ) (changes : List (Change A))
    → TellsTrees f changes (owned_in d c).surfaces (owned_in e c).surfaces → All (IsAppliedByName f changes (applied_between d e)) step.is

-- ---- marks

-- A step changes the windows stacked with one toplevel. The names tell the surfaces of its client apart, none of which comes, and the
-- changes tell by name what damage is applied to them.
pub record IsTold {A : Type 0} (c : ℕ) (d e : Desktop) (f : ℕ → ℕ) (changes : List (Change A)) : Type 0 where
  pub shown_before : ShownStand d
  pub shown_after : ShownStand e
  pub apart : AreToldApart f (owned_in d c).surfaces
  pub stay : NoneComes (owned_in d c).surfaces (owned_in e c).surfaces
  pub tells : TellsTrees f changes (owned_in d c).surfaces (owned_in e c).surfaces

-- Then its windows are told tree by tree, before and after; and what is marked of them tree by tree is all that the step has to mark, and
-- in the output nothing that it may not mark.
pub record MarksRun {A : Type 0} (d e : Desktop) (f : ℕ → ℕ) (changes : List (Change A)) (was is : List Window) : Type 0 where
  pub together_before : AreTogether (map (told_by f) was)
  pub together_after : AreTogether (map (told_by f) is)
  pub least :
      (x y : ℤ) → marks_at_least d e x y ≡ true → marks_trees (map (told_by f) was) (map (told_by f) is) changes x y ≡ true
  pub most :
      (raised : Option (ℕ × ℕ)) (x y : ℤ)
      → (in_output d.output.width d.output.height x y && marks_trees (map (told_by f) was) (map (told_by f) is) changes x y) ≡ true
      → marks_at_most d e raised x y ≡ true

abbrev pub RunsAreMarked : Type 0 → Type 0
RunsAreMarked A =
    (c toplevel : ℕ) (d e : Desktop) (step : ChangesToplevel c toplevel d e) (f : ℕ → ℕ) (changes : List (Change A))
    → IsTold c d e f changes → MarksRun d e f changes step.was step.is

-- ---- on what is to be painted

-- What is to be painted stays so, and more is only what is marked of these windows tree by tree, where those of each tree stand together.
abbrev pub AddsRun : {A : Type 0} → (ℕ → ℕ) → List (Change A) → List Window → List Window → Damaged → Damaged → Type 0
AddsRun f changes was is old new =
    AreTogether (map (told_by f) was) → AreTogether (map (told_by f) is)
    → AddsPoints (marks_trees (map (told_by f) was) (map (told_by f) is) changes) old new

-- Where the toplevel has no windows any more, that is what all points are of those that it had.
abbrev pub GoneRunAdds : Type 0 → Type 0
GoneRunAdds A =
    (f : ℕ → ℕ) (changes : List (Change A)) (was is : List Window) (old new : Damaged) → is ≡ []
    → AddsPoints (λ x y. list_any (window_has x y) (map (told_by f) was)) old new → AddsRun f changes was is old new

-- So what the step marks at least is to be painted too,
abbrev pub AddsAtLeast : Type 0 → Type 0
AddsAtLeast A =
    (d e : Desktop) (f : ℕ → ℕ) (changes : List (Change A)) (was is : List Window) → MarksRun d e f changes was is → (old new : Damaged)
    → AddsRun f changes was is old new
    → (x y : ℕ) → x < old.width → y < old.height → has new x y ≡ false
    → (has old x y ≡ false) × (marks_at_least d e (pos x) (pos y) ≡ false)

-- and what is to be painted was so before, or is among what it marks at most, whichever toplevel a press raised.
abbrev pub AddsAtMost : Type 0 → Type 0
AddsAtMost A =
    (d e : Desktop) (f : ℕ → ℕ) (changes : List (Change A)) (was is : List Window) → MarksRun d e f changes was is → (old new : Damaged)
    → ((x y : ℕ) → x < old.width → y < old.height → in_output d.output.width d.output.height (pos x) (pos y) ≡ true)
    → AddsRun f changes was is old new → (raised : Option (ℕ × ℕ))
    → (x y : ℕ) → x < old.width → y < old.height → has new x y ≡ true → (has old x y || marks_at_most d e raised (pos x) (pos y)) ≡ true
