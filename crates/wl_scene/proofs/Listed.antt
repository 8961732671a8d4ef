-- What is told of the windows that are kept is what those of the desktop have.
use Rattle.std.proofs.Common.{◌≡◌, ℕ, suc, zero, ◌<◌, List, [], ◌∷◌, ap, sym, ◌∙◌, length, get_or, subst, arith}
use Rattle.std.specs.Prelude.{IsSomeAnd, slice_get}
use Rattle.spec_desktop.specs.Objects.{ById}
use Rattle.spec_desktop.specs.Windows.{Window}
use Rattle.wl_scene.specs.declared.stacked.Stacked.{Stacked}
use Rattle.wl_scene.specs.declared.tree_window.TreeWindow.{TreeWindow}
use Rattle.wl_scene.specs.declared.window.Window.{Window as Told}
use Rattle.wl_scene.specs.StackedAgreement.{AreStacked, IsStacked}
use Rattle.wl_scene.specs.Window.{IsTold, told_of}

pub told-one : (numbers : ℕ → ById ℕ) (s : Stacked) (w : Window) → IsStacked numbers s w → IsTold numbers (told_of s) w
told-one numbers s w is =
    record {
      client = is.client;
      surface = ap (λ (c : ℕ). numbers c w.surface) (sym is.client) ∙ is.surface;
      x = ap (λ (t : TreeWindow). t.x) is.told;
      y = ap (λ (t : TreeWindow). t.y) is.told;
      width = ap (λ (t : TreeWindow). t.w) is.told;
      height = ap (λ (t : TreeWindow). t.h) is.told;
    }

-- the window at a place
pub told-at : (numbers : ℕ → ById ℕ) (default : Stacked) (ss : List Stacked) (ws : List Window) → AreStacked numbers ss ws → (k : ℕ) → k < length ss
    → IsSomeAnd (slice_get ws k) (λ w. IsTold numbers (told_of (get_or ss k default)) w)
told-at numbers default [] ws are k less = absurd (omega arith)
told-at numbers default (s ∷ ss) [] are k less = absurd are
told-at numbers default (s ∷ ss) (w ∷ ws) are zero less = told-one numbers s w are.0
told-at numbers default (s ∷ ss) (w ∷ ws) are (suc k) less = told-at numbers default ss ws are.1 k (omega arith)

pub told-there : (numbers : ℕ → ById ℕ) (default : Stacked) (ss all : List Stacked) → ss ≡ all → (k : ℕ) (told : Told) → told ≡ told_of (get_or ss k default)
    → (ws : List Window) → AreStacked numbers all ws → k < length all → IsSomeAnd (slice_get ws k) (λ w. IsTold numbers told w)
told-there numbers default ss all same k told is ws are less =
    subst (λ (t : Told). IsSomeAnd (slice_get ws k) (λ w. IsTold numbers t w)) (sym (is ∙ ap (λ (xs : List Stacked). told_of (get_or xs k default)) same))
    (told-at numbers default all ws are k less)
