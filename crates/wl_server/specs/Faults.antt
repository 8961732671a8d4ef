-- What a call that counts its faults does to the count.
use Rattle.std.specs.Prelude.{◌≡◌, ◌<◌, ◌+◌, ◌-◌, ◌^◌, ◌⊎◌, ℕ, min, Result, Ok, Err, MatchResult}

-- the count rose, or stands at its greatest value
abbrev pub Rose : ℕ → ℕ → Type 0
Rose old new = (old < new) ⊎ (new ≡ 2 ^ 64 - 1)

-- a fault is answered only where the count rose, and nothing else changes the count
abbrev pub CountsFault : {T E : Type 0} → ℕ → ℕ → Result T E → Type 0
CountsFault old new r = MatchResult r (λ _. new ≡ old) (λ _. Rose old new)

-- the count after a call that counts one for a fault, as far as it goes
abbrev pub count_after : {T E : Type 0} → ℕ → Result T E → ℕ
count_after old (Ok _) = old
count_after old (Err _) = min (old + 1) (2 ^ 64 - 1)
