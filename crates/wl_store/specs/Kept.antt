-- Stores as they are kept. One is blank until something is written to it, and lends zeros in place
-- of bytes of its own.
use Rattle.std.specs.Prelude.{ℕ, ◌≡◌, ◌≢◌, ◌≤◌, ◌<◌, ◌-◌, ◌⊎◌, List, [], ◌++◌, length, map, replicate, slice_index_or, cond, Bool, false}
use Rattle.std.specs.List.{All}
use Rattle.wl_store.specs.Stores.{Held, IsSound}

-- what is seen of a store, and whether it is blank
pub record Kept : Type 0 where
  pub held : Held
  pub blank : Bool

abbrev pub seen : List Kept → List Held
seen stores = map (λ s. s.held) stores

-- how many zeros a store lends
abbrev pub zeros_lent : Kept → ℕ
zeros_lent s = cond s.blank (length s.held.bytes) 0

-- the store once it has bytes of its own
abbrev pub filled : Kept → Kept
filled s = record s { blank = false }

-- the store with zeros at its end, up to this size
abbrev pub grown : ℕ → Held → Held
grown size s = record s { bytes = s.bytes ++ replicate (size - length s.bytes) 0 }

-- there is no byte yet and room for so many, or there are that many
abbrev pub HoldsBytes : ℕ → ℕ → List ℕ → Type 0
HoldsBytes size room bytes = ((bytes ≡ []) × (size ≤ room)) ⊎ (length bytes ≡ size)

-- each store but the one at the place was written to
abbrev pub IsNoneBlankBeside : ℕ → List Kept → Type 0
IsNoneBlankBeside place stores = (k : ℕ) (d : Kept) → k < length stores → k ≢ place → (slice_index_or stores k d).blank ≡ false

-- each store lends at most so many zeros
abbrev pub Lends : ℕ → List Kept → Type 0
Lends zeros stores = All (λ s. zeros_lent s ≤ zeros) stores

-- What is seen of the stores is sound, and there are as many zeros as they lend.
pub record IsKept (stores : List Kept) (made total zeros : ℕ) : Type 0 where
  pub sound : IsSound (seen stores) made total
  pub lends : Lends zeros stores
