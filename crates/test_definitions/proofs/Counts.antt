-- How many points of a square a step marks, computed on the definitions.
use Rattle.std.proofs.Common.{ℕ, zero, suc, ◌+◌, Bool, Option, None, cond}
use Rattle.std.specs.Prelude.{pos}
use Rattle.spec_desktop.specs.Desktop.{Desktop}
use Rattle.spec_desktop.specs.Moments.{marks_at_least, marks_at_most}

-- how many points of a square in the corner, with sides of so many, pass
abbrev in_row : (ℕ → Bool) → ℕ → ℕ
in_row is zero = 0
in_row is (suc n) = cond (is n) 1 0 + in_row is n

abbrev pub in_rows : (ℕ → ℕ → Bool) → ℕ → ℕ → ℕ
in_rows is width zero = 0
in_rows is width (suc n) = in_row (is n) width + in_rows is width n

-- how many points of a square in the corner, with sides of so many, a step marks at least
abbrev pub marked : ℕ → Desktop → Desktop → ℕ
marked side old new = in_rows (λ y x. marks_at_least old new (pos x) (pos y)) side side

-- and at most, where a press raised this toplevel, or none did
abbrev pub allowed_by : Option (ℕ × ℕ) → ℕ → Desktop → Desktop → ℕ
allowed_by raised side old new = in_rows (λ y x. marks_at_most old new raised (pos x) (pos y)) side side

abbrev pub allowed : ℕ → Desktop → Desktop → ℕ
allowed side old new = allowed_by None side old new

-- whether it marks a point
abbrev pub marks : Desktop → Desktop → ℕ → ℕ → Bool
marks old new x y = marks_at_least old new (pos x) (pos y)
