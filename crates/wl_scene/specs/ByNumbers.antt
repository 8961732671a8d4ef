-- The pointer and the windows by the numbers of surfaces.
use Rattle.std.specs.Prelude.{ℕ, ℤ, ◌≡◌, ◌≢◌, Option, Some, None, List, [], ◌∷◌, ◌⊎◌}
use Rattle.spec_desktop.specs.Objects.{ById}
use Rattle.spec_desktop.specs.Pointer.{Pointer, Target, is_same, settled}
use Rattle.spec_desktop.specs.Windows.{Window, hit}
use Rattle.wl_scene.specs.declared.stacked.Stacked.{Stacked}
use Rattle.wl_scene.specs.Hit.{IsStackedOrNone}
use Rattle.wl_scene.specs.StackedAgreement.{AreNumberedOnce, AreStacked}

-- ---- windows

-- A window by the numbers of its surface, of the root of its tree, and of the toplevel that it is stacked with.
abbrev pub numbered : Stacked → Window → Window
numbered s w =
    record w { owner = record { client = s.client; root = s.window.root; toplevel = s.toplevel }; surface = s.window.surface }

-- those that are kept stand for these
abbrev pub by_numbers : List Stacked → List Window → List Window
by_numbers [] ws = []
by_numbers (s ∷ ss) [] = []
by_numbers (s ∷ ss) (w ∷ ws) = numbered s w ∷ by_numbers ss ws

-- that of a window that is kept, or none
abbrev pub numbered_or_none : Option Stacked → Option Window → Option Window
numbered_or_none None w = None
numbered_or_none (Some s) None = None
numbered_or_none (Some s) (Some w) = Some (numbered s w)

-- By numbers a point hits the window that stands for the one that it hits.
abbrev pub HitsByNumbers : Type 0
HitsByNumbers =
    (numbers : ℕ → ById ℕ) (stacked : List Stacked) (ws : List Window) (x y : ℤ) (found : Option Stacked)
    → AreStacked numbers stacked ws → IsStackedOrNone numbers found (hit x y ws)
    → hit x y (by_numbers stacked ws) ≡ numbered_or_none found (hit x y ws)

-- ---- surfaces

-- a surface goes by its number
pub record IsNumbered (numbers : ℕ → ById ℕ) (named t : Target) : Type 0 where
  pub client : named.client ≡ t.client
  pub surface : numbers t.client t.surface ≡ Some named.surface

-- a surface that is gone: it has no number, and none has the one that it had
pub record IsGone (numbers : ℕ → ById ℕ) (named t : Target) : Type 0 where
  pub client : named.client ≡ t.client
  pub surface : numbers t.client t.surface ≡ None
  pub other : (id : ℕ) → numbers t.client id ≢ Some named.surface

abbrev pub IsNumberedOrNone : (ℕ → ById ℕ) → Option Target → Option Target → Type 0
IsNumberedOrNone numbers None None = Unit {0}
IsNumberedOrNone numbers (Some named) (Some t) = IsNumbered numbers named t
IsNumberedOrNone numbers None (Some t) = ⊥
IsNumberedOrNone numbers (Some named) None = ⊥

abbrev pub IsNamed : (ℕ → ById ℕ) → Option Target → Option Target → Type 0
IsNamed numbers None None = Unit {0}
IsNamed numbers (Some named) (Some t) = IsNumbered numbers named t ⊎ IsGone numbers named t
IsNamed numbers None (Some t) = ⊥
IsNamed numbers (Some named) None = ⊥

-- ---- the pointer

-- a pointer that is kept by the numbers of surfaces is this one
pub record IsPointer (numbers : ℕ → ById ℕ) (named p : Pointer) : Type 0 where
  pub place : named.place ≡ p.place
  pub buttons : named.buttons ≡ p.buttons
  pub hold : named.hold ≡ p.hold
  pub focus : IsNamed numbers named.focus p.focus
  pub move : IsNamed numbers named.move p.move

-- Settled by numbers, the focus is the same surface as settled by ids, and it moves where that does.
abbrev pub SettlesByNumbers : Type 0
SettlesByNumbers =
    (numbers : ℕ → ById ℕ) (stacked : List Stacked) (ws : List Window) (named p : Pointer)
    → ((c : ℕ) → AreNumberedOnce (numbers c)) → AreStacked numbers stacked ws → IsPointer numbers named p
    → IsNumberedOrNone numbers (settled named (by_numbers stacked ws)) (settled p ws)
    × (is_same named.focus (settled named (by_numbers stacked ws)) ≡ is_same p.focus (settled p ws))
