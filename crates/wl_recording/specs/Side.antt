-- Side files, as a replay meets them.
use Rattle.std.specs.Prelude.{◌≡◌, ◌<◌, ◌-◌, ◌^◌, ◌⊎◌, ℕ, Bool, false, List, Result, MatchResult}

-- The count rose, or has its greatest value.
abbrev pub Rose : ℕ → ℕ → Type 0
Rose old new = (old < new) ⊎ (new ≡ 2 ^ 64 - 1)

-- A fault is answered only if the count rose. Nothing else changes the count.
abbrev pub CountsFault : {T E : Type 0} → ℕ → ℕ → Result T E → Type 0
CountsFault old new r = MatchResult r (λ _. new ≡ old) (λ _. Rose old new)

-- What side files may do from one state to the next: what an `open` of a name, from a byte on,
-- answers, and which bytes a read gives. It also has how many faults a state has counted.
pub record Files (S : Type 0) : Type 1 where
  pub opens : S → List ℕ → ℕ → Bool → S → Type 0
  pub gives : S → List ℕ → S → Type 0
  pub faults : S → ℕ

abbrev pub files_of : {S : Type 0} → (S → List ℕ → ℕ → Bool → S → Type 0) → (S → List ℕ → S → Type 0) → (S → ℕ) → Files S
files_of opens gives faults = record { opens = opens; gives = gives; faults = faults }

-- there is no file of this name, or a call failed
abbrev pub Lacks : {S : Type 0} → Files S → List ℕ → S → S → Type 0
Lacks files name from to = files.opens from name 0 false to ⊎ Rose (files.faults from) (files.faults to)
