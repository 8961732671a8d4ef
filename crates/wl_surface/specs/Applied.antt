-- What a call tells of the surfaces that it changes.
use Rattle.std.specs.Prelude.{ℕ, ◌≡◌, ◌==◌, ◌&&◌, Bool, true, false, not, cond, Option, Some, None, List}
use Rattle.std.specs.Prelude.{[], ◌∷◌, count_by}
use Rattle.wl_surface.specs.declared.applied.Change.{Change}
use Rattle.wl_surface.specs.Slots.{IsAny, Numbered, shows_at}
use Rattle.wl_surface.specs.State.{History, SaysDamage, applied, between, committed, held}
use Rattle.wl_surface.specs.Surface.{Surface, is_there}

-- What is told of a surface that is applied. Its damage is what was asked since it was last
-- applied, of what it shows now.
pub record IsApplied {A : Type 0} (number : ℕ) (h : History) (c : Change A) : Type 0 where
  pub surface : c.surface ≡ number
  pub damage : SaysDamage c.rects.items (held h) (between h.cut (committed h.requests) h.requests)

-- a surface that is there is told of, and no other
abbrev pub AreApplied : {A : Type 0} → ℕ → Option Surface → Option (Change A) → Type 0
AreApplied number None change = change ≡ None
AreApplied {A} number (Some s) change = (c : Change A) × (change ≡ Some c) × IsApplied number s.history c

-- the surface shows a buffer
abbrev pub is_shown_at : Option Surface → Bool
is_shown_at None = false
is_shown_at (Some s) = is_there (applied s.history).buffer

-- a surface that goes is told of if it showed a buffer
abbrev pub AreGoneIf : {A : Type 0} → Bool → ℕ → List (Change A) → Type 0
AreGoneIf false number changes = changes ≡ []
AreGoneIf {A} true number changes = (c : Change A) × (changes ≡ c ∷ []) × (c.surface ≡ number) × (c.rects.items ≡ [])

abbrev pub AreGone : {A : Type 0} → ℕ → Option Surface → List (Change A) → Type 0
AreGone number at changes = AreGoneIf (is_shown_at at) number changes

-- The freed buffers are those that were busy and aren't any more, each once.
abbrev pub AreFreed : List ℕ → Numbered → Numbered → Type 0
AreFreed freed old new =
    (buffer : ℕ) (was is : Bool) → IsAny (shows_at buffer) old was → IsAny (shows_at buffer) new is
    → count_by (λ n. n == buffer) freed ≡ cond (was && not is) 1 0
