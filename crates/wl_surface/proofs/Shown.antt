-- Whether a surface shows a buffer, and what its end changes of that.
use Rattle.std.proofs.Common.{◌≡◌, ℕ, Bool, true, false, Option, List, ◌∷◌, ◌++◌, ap, sym, subst, ◌∙◌, []}
use Rattle.wl_surface.specs.Surface.{Surface}
use Rattle.wl_surface.specs.declared.applied.Change.{Change}
use Rattle.wl_surface.specs.Applied.{AreGone, AreGoneIf, is_shown_at}

-- one change is told of it, or none
pub gone-shown : {A : Type 0} (surface : ℕ) (at : Option Surface) (shown : Bool) (change : Change A) (was changes : List (Change A)) → shown ≡ is_shown_at at → shown ≡ true
    → change.surface ≡ surface → change.rects.items ≡ [] → was ≡ [] → changes ≡ was ++ change ∷ [] → AreGone surface at changes
gone-shown {A} surface at shown change was changes is e of_it none first told =
    subst (λ b. AreGoneIf {A = A} b surface changes) (sym (sym is ∙ e)) (change, told ∙ ap (λ cs. cs ++ change ∷ []) first, of_it, none)

pub gone-hidden : {A : Type 0} (surface : ℕ) (at : Option Surface) (shown : Bool) (changes : List (Change A)) → shown ≡ is_shown_at at → shown ≡ false → changes ≡ [] → AreGone surface at changes
gone-hidden {A} surface at shown changes is e none = subst (λ b. AreGoneIf {A = A} b surface changes) (sym (sym is ∙ e)) none
