-- What is kept of the windows of the output goes on standing for those of the desktop where the windows stacked with one toplevel change.
use Rattle.std.specs.Prelude.{ℕ, ◌≡◌, true, false, Some, None, List, [], ◌∷◌, ◌++◌, find, map}
use Rattle.std.specs.List.{list_any}
use Rattle.spec_desktop.specs.Objects.{ById}
use Rattle.spec_desktop.specs.Stacking.{Standing, is_of as is_standing}
use Rattle.spec_desktop.specs.Desktop.{Desktop, owned_in}
use Rattle.spec_desktop.specs.Stacked.{all_windows}
use Rattle.law_desktop.specs.Renaming.{has_surface}
use Rattle.wl_scene.specs.declared.stacked.Stacked.{Stacked}
use Rattle.wl_scene.specs.Stacked.{is_of, raised, replaced, run_of, stacked, toplevel_with, without_run}
use Rattle.spec_desktop.specs.Windows.{Owner}
use Rattle.wl_scene.specs.StackedAgreement.{AreNumberedBy, AreNumberedOnce, AreStacked}
use Rattle.law_desktop.specs.Changes.{HasTrees}
use Rattle.law_desktop.specs.Toplevel.{ChangesToplevel}
use Rattle.law_windows.specs.RenamedWindows.{told_by}
use Rattle.law_windows.specs.Runs.Marks.{NoneComes}
use Rattle.law_windows.specs.Runs.Moves.{lifted}
use Rattle.law_windows.specs.Runs.Numbers.{AreKeptFor, toplevel_kept}

-- whose a kept window is, by numbers
abbrev pub kept_owner : Stacked → Owner
kept_owner s = record { client = s.client; root = s.window.root; toplevel = s.toplevel }

-- What stands for windows is kept for them, so that a toplevel is found by it.
abbrev pub StackedAreKept : Type 0
StackedAreKept =
    (numbers : ℕ → ById ℕ) (all : List Stacked) (d : Desktop) → AreStacked numbers all (all_windows d)
    → AreKeptFor kept_owner numbers all (all_windows d)
    × ((c root : ℕ) → toplevel_with c root all ≡ toplevel_kept kept_owner c root all)

-- What is kept stands for the windows of a desktop, on which a step changes those stacked with a toplevel; each surface of its client has
-- its number, by which f calls it, no number is that of two, and none comes.
pub record IsNumbered (numbers : ℕ → ById ℕ) (all : List Stacked) (c toplevel k : ℕ) (f : ℕ → ℕ) (d e : Desktop) : Type 0 where
  pub are : AreStacked numbers all (all_windows d)
  pub named : numbers c toplevel ≡ Some k
  pub once : AreNumberedOnce (numbers c)
  pub by : (id : ℕ) → has_surface id (owned_in d c).surfaces ≡ true → numbers c id ≡ Some (f id)
  pub stay : NoneComes (owned_in d c).surfaces (owned_in e c).surfaces

-- What is kept of the windows of the toplevel tells those that it had; and those that it has are numbered.
abbrev pub RunWasTold : Type 0
RunWasTold =
    (numbers : ℕ → ById ℕ) (all : List Stacked) (c toplevel k : ℕ) (f : ℕ → ℕ) (d e : Desktop) (step : ChangesToplevel c toplevel d e)
    → IsNumbered numbers all c toplevel k f d e
    → (map (λ s. s.window) (run_of c k all) ≡ map (told_by f) step.was) × AreNumberedBy (numbers c) f step.is

-- Where it stands only if it did, its windows come to the place of those that it had: where the same toplevels stand, or it is moved.
abbrev pub RunStays : Type 0
RunStays =
    (numbers : ℕ → ById ℕ) (all : List Stacked) (c toplevel k : ℕ) (f : ℕ → ℕ) (d e : Desktop) (step : ChangesToplevel c toplevel d e)
    → IsNumbered numbers all c toplevel k f d e → HasTrees d
    → (list_any (is_standing c toplevel) d.standing ≡ false → list_any (is_standing c toplevel) e.standing ≡ false)
    → AreStacked numbers (replaced c k (map (told_by f) step.is) all) (all_windows e)

-- Where it is raised, they come on top.
abbrev pub RunRises : Type 0
RunRises =
    (numbers : ℕ → ById ℕ) (all : List Stacked) (c toplevel k : ℕ) (d : Desktop) → HasTrees d → AreStacked numbers all (all_windows d)
    → numbers c toplevel ≡ Some k → AreNumberedOnce (numbers c)
    → AreStacked numbers (raised c k all) (all_windows (lifted c toplevel d))

-- Where it doesn't stand any more, they go.
abbrev pub RunGoes : Type 0
RunGoes =
    (numbers : ℕ → ById ℕ) (all : List Stacked) (c toplevel k : ℕ) (f : ℕ → ℕ) (d e : Desktop) (step : ChangesToplevel c toplevel d e)
    → IsNumbered numbers all c toplevel k f d e → find (is_standing c toplevel) e.standing ≡ None
    → (step.is ≡ []) × AreStacked numbers (without_run c k all) (all_windows e)

-- Where it was mapped, they come on top.
abbrev pub RunComes : Type 0
RunComes =
    (numbers : ℕ → ById ℕ) (all : List Stacked) (c toplevel k : ℕ) (f : ℕ → ℕ) (d e : Desktop) (step : ChangesToplevel c toplevel d e)
    → IsNumbered numbers all c toplevel k f d e → (s : Standing) → is_standing c toplevel s ≡ true → e.standing ≡ d.standing ++ s ∷ []
    → list_any (is_standing c toplevel) d.standing ≡ false
    → (list_any (is_of c k) all ≡ false) × AreStacked numbers (all ++ map (stacked c k) (map (told_by f) step.is)) (all_windows e)
