-- Which points of an output are damaged.
use Rattle.std.specs.Prelude.{◌≡◌, ◌+◌, ◌≤◌, ◌<◌, ℕ, zero, suc, Bool, true, false, if◌then◌else◌, Option, Some, None, List, [], length}
use Rattle.std.specs.Prelude.{slice_index_or, ◌&&◌, nat_le, nat_lt}

-- an output's sides in pixels, and a truth value for each point, row by row from the top
pub record Damaged : Type 0 where
  pub width : ℕ
  pub height : ℕ
  pub rows : List (List Bool)

-- the sides are at most an output's, and the rows have them
pub record IsDamage (damage : Damaged) : Type 0 where
  pub wide : damage.width ≤ 4096
  pub high : damage.height ≤ 4096
  pub sized : length damage.rows ≡ damage.height
  pub each_wide : (y : ℕ) → y < damage.height → length (slice_index_or damage.rows y []) ≡ damage.width

-- whether a row's point is damaged
abbrev pub marked : List Bool → ℕ → Bool
marked row x = slice_index_or row x false

-- whether the point in column x of row y is damaged
abbrev pub has : Damaged → ℕ → ℕ → Bool
has damage x y = marked (slice_index_or damage.rows y []) x

-- at is one of the numbers from first up to end
abbrev pub is_between : ℕ → ℕ → ℕ → Bool
is_between first end at = nat_le first at && nat_lt at end

-- how many of the numbers below n pass the test
abbrev pub count_below : ℕ → (ℕ → Bool) → ℕ
count_below zero p = 0
count_below (suc n) p = (if p n then 1 else 0) + count_below n p

-- how many points (x, y) with x below width and y below height pass the test
abbrev pub count_points : ℕ → ℕ → (ℕ → ℕ → Bool) → ℕ
count_points width zero p = 0
count_points width (suc height) p = count_below width (λ x. p x height) + count_points width height p

-- a run of numbers, by its start and length, is the first at or after `from` of those below n that pass the test
pub record IsFirstRun (p : ℕ → Bool) (n from : ℕ) (run : ℕ × ℕ) : Type 0 where
  pub starts : from ≤ run.0
  pub some : 1 ≤ run.1
  pub within : run.0 + run.1 ≤ n
  pub before : (k : ℕ) → from ≤ k → k < run.0 → p k ≡ false
  pub inside : (k : ℕ) → run.0 ≤ k → k < run.0 + run.1 → p k ≡ true
  pub after : run.0 + run.1 < n → p (run.0 + run.1) ≡ false

-- a part of the first run at or after `from` that begins with it and lies before `end`
pub record IsFirstPart (p : ℕ → Bool) (from end : ℕ) (part : ℕ × ℕ) : Type 0 where
  pub starts : from ≤ part.0
  pub some : 1 ≤ part.1
  pub within : part.0 + part.1 ≤ end
  pub before : (k : ℕ) → from ≤ k → k < part.0 → p k ≡ false
  pub inside : (k : ℕ) → part.0 ≤ k → k < part.0 + part.1 → p k ≡ true

-- the first run at or after `from`, or none where no number passes the test
abbrev pub GivesRun : (ℕ → Bool) → ℕ → ℕ → Option (ℕ × ℕ) → Type 0
GivesRun p n from (Some run) = IsFirstRun p n from run
GivesRun p n from None = (k : ℕ) → from ≤ k → k < n → p k ≡ false
