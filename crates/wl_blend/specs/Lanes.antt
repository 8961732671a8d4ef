-- Vectors of sixteen lanes.
use Rattle.std.specs.Prelude.{◌≡◌, ℕ, ◌<◌, List, length}
use Rattle.std.specs.Simd.Lanes.{Each1}

-- sixteen lanes, each below n
pub record IsBelow (n : ℕ) (v : List ℕ) : Type 0 where
  pub count : length v ≡ 16
  pub each : Each1 (λ x. x < n) v

-- sixteen bytes, those of four pixels
abbrev pub AreBytes : List ℕ → Type 0
AreBytes v = IsBelow 256 v
