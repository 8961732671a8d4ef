use Rattle.std.proofs.Common.{◌≡◌, ◌<◌, ℕ, [], false, length}
use Rattle.std.specs.Prelude.{slice_index_or}
use Rattle.wl_paint.specs.Damage.{marked}
use Rattle.wl_paint.proofs.damage.Damage.new.Given as goal

-- the rows so far are as wide as the output, and without damage
abbrev pub invariant-loop : goal.invariant-loop
invariant-loop g l = record {
  wide : (y : ℕ) → y < l.counter → length (slice_index_or l.rows.items y []) ≡ l.width;
  empty : (x y : ℕ) → marked (slice_index_or l.rows.items y []) x ≡ false;
  sized : length l.rows.items ≡ l.counter;
}
