-- What of an output is marked to be painted again, where a window changed.
use Rattle.std.specs.Prelude.{ℕ, ℤ, ◌≡◌, ◌<◌, ◌||◌, pos, Bool}
use Rattle.wl_paint.specs.Damage.{Damaged, has}

-- the damage of an output with the same sides
pub record IsAsLarge (old new : Damaged) : Type 0 where
  pub width : new.width ≡ old.width
  pub height : new.height ≡ old.height

-- these points are to be painted too, and no others
abbrev pub AddsPoints : (ℤ → ℤ → Bool) → Damaged → Damaged → Type 0
AddsPoints p old new = (x y : ℕ) → x < old.width → y < old.height → has new x y ≡ (has old x y || p (pos x) (pos y))
