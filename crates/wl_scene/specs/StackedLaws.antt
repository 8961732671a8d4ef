-- What is kept of the windows of the output goes on standing for those of the desktop where the windows stacked with one toplevel change, come
-- or go.
use Rattle.std.specs.Prelude.{ℕ, ◌≡◌, ◌==◌, true, false, not, List, ◌++◌, Some, filter, map}
use Rattle.std.specs.List.{All, list_all, list_any}
use Rattle.spec_desktop.specs.Objects.{ById}
use Rattle.spec_desktop.specs.Windows.{Window}
use Rattle.wl_scene.specs.declared.stacked.Stacked.{Stacked}
use Rattle.wl_scene.specs.Stacked.{is_of, raised, replaced, stacked, run_of, without_client, without_run}
use Rattle.wl_scene.specs.StackedAgreement.{AreNumberedBy, AreNumberedOnce, AreStacked, has_toplevel, told_by}

-- ---- lists

-- Of what stands for windows one above another, the first stand for the first and the others for the others.
abbrev pub FirstAreStacked : Type 0
FirstAreStacked =
    (numbers : ℕ → ById ℕ) (all : List Stacked) (ws vs : List Window) → AreStacked numbers all (ws ++ vs)
    → (first : List Stacked) × (others : List Stacked) × (all ≡ first ++ others) × AreStacked numbers first ws
    × AreStacked numbers others vs

-- One above another, what stands for these windows and what stands for those stand for both.
abbrev pub BothAreStacked : Type 0
BothAreStacked =
    (numbers : ℕ → ById ℕ) (first others : List Stacked) (ws vs : List Window) → AreStacked numbers first ws
    → AreStacked numbers others vs → AreStacked numbers (first ++ others) (ws ++ vs)

-- ---- numbers

-- What stands for windows stands for them by other numbers that are the same for their toplevels, roots and surfaces.
abbrev pub StackedRenumbered : Type 0
StackedRenumbered =
    (old new : ℕ → ById ℕ) (all : List Stacked) (ws : List Window)
    → All (λ w. new w.owner.client w.owner.toplevel ≡ old w.owner.client w.owner.toplevel) ws
    → All (λ w. new w.owner.client w.owner.root ≡ old w.owner.client w.owner.root) ws
    → All (λ w. new w.owner.client w.surface ≡ old w.owner.client w.surface) ws → AreStacked old all ws → AreStacked new all ws

-- ---- the windows stacked with one toplevel

-- A window stacked with a toplevel is kept where the desktop has one.
abbrev pub RunIsThere : Type 0
RunIsThere =
    (numbers : ℕ → ById ℕ) (all : List Stacked) (ws : List Window) (client toplevel k : ℕ) → AreStacked numbers all ws
    → numbers client toplevel ≡ Some k → AreNumberedOnce (numbers client)
    → list_any (is_of client k) all ≡ list_any (has_toplevel client toplevel) ws

-- What is kept of the windows stacked with a toplevel stands for them.
abbrev pub RunIsStacked : Type 0
RunIsStacked =
    (numbers : ℕ → ById ℕ) (all : List Stacked) (ws : List Window) (client toplevel k : ℕ) → AreStacked numbers all ws
    → numbers client toplevel ≡ Some k → AreNumberedOnce (numbers client)
    → AreStacked numbers (run_of client k all) (filter (λ w. has_toplevel client toplevel w) ws)

-- What is kept of a client's windows tells them by the numbers of their surfaces.
abbrev pub StackedAreTold : Type 0
StackedAreTold =
    (numbers : ℕ → ById ℕ) (all : List Stacked) (ws : List Window) (client : ℕ) (f : ℕ → ℕ) → AreStacked numbers all ws
    → list_all (λ w. client == w.owner.client) ws ≡ true → AreNumberedBy (numbers client) f ws
    → map (λ s. s.window) all ≡ map (told_by f) ws

-- Where other windows of a toplevel come to their place, which is where it has some, those below them and above them stay.
abbrev pub StackedReplaced : Type 0
StackedReplaced =
    (numbers : ℕ → ById ℕ) (all : List Stacked) (client toplevel k : ℕ) (f : ℕ → ℕ) (below above was is : List Window)
    → AreStacked numbers all (below ++ (was ++ above))
    → list_all (has_toplevel client toplevel) was ≡ true → list_any (has_toplevel client toplevel) was ≡ true
    → list_any (has_toplevel client toplevel) (below ++ above) ≡ false
    → numbers client toplevel ≡ Some k → AreNumberedOnce (numbers client)
    → list_all (has_toplevel client toplevel) is ≡ true → AreNumberedBy (numbers client) f is
    → AreStacked numbers (replaced client k (map (told_by f) is) all) (below ++ (is ++ above))

-- The windows stacked with a toplevel come on top of the others.
abbrev pub StackedPushed : Type 0
StackedPushed =
    (numbers : ℕ → ById ℕ) (all : List Stacked) (ws : List Window) (client toplevel k : ℕ) (f : ℕ → ℕ) (is : List Window)
    → AreStacked numbers all ws → numbers client toplevel ≡ Some k
    → list_all (has_toplevel client toplevel) is ≡ true → AreNumberedBy (numbers client) f is
    → AreStacked numbers (all ++ map (stacked client k) (map (told_by f) is)) (ws ++ is)

-- The windows stacked with a toplevel go.
abbrev pub StackedRemoved : Type 0
StackedRemoved =
    (numbers : ℕ → ById ℕ) (all : List Stacked) (ws : List Window) (client toplevel k : ℕ) → AreStacked numbers all ws
    → numbers client toplevel ≡ Some k → AreNumberedOnce (numbers client)
    → AreStacked numbers (without_run client k all) (filter (λ w. not (has_toplevel client toplevel w)) ws)

-- They are these alone: those below them and above them are left.
abbrev pub StackedRunGone : Type 0
StackedRunGone =
    (numbers : ℕ → ById ℕ) (all : List Stacked) (client toplevel k : ℕ) (below above was : List Window)
    → AreStacked numbers all (below ++ (was ++ above))
    → list_all (has_toplevel client toplevel) was ≡ true → list_any (has_toplevel client toplevel) (below ++ above) ≡ false
    → numbers client toplevel ≡ Some k → AreNumberedOnce (numbers client)
    → AreStacked numbers (without_run client k all) (below ++ above)

-- The windows of a client go.
abbrev pub StackedClientGone : Type 0
StackedClientGone =
    (numbers : ℕ → ById ℕ) (all : List Stacked) (ws : List Window) (client : ℕ) → AreStacked numbers all ws
    → AreStacked numbers (without_client client all) (filter (λ w. not (w.owner.client == client)) ws)

-- ---- a toplevel that is raised

-- The windows stacked with a toplevel come on top of the others.
abbrev pub StackedRunRaised : Type 0
StackedRunRaised =
    (numbers : ℕ → ById ℕ) (all : List Stacked) (ws : List Window) (client toplevel k : ℕ) → AreStacked numbers all ws
    → numbers client toplevel ≡ Some k → AreNumberedOnce (numbers client)
    → AreStacked numbers (raised client k all)
    (filter (λ w. not (has_toplevel client toplevel w)) ws ++ filter (λ w. has_toplevel client toplevel w) ws)
