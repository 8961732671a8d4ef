use Rattle.std.proofs.Common.{◌≡◌, ◌<◌, ℕ, [], false, length}
use Rattle.std.specs.Prelude.{slice_index_or}
use Rattle.wl_paint.specs.Damage.{marked}
use Rattle.wl_paint.proofs.damage.clear_rows.Given as goal

abbrev pub invariant-loop-row : goal.invariant-loop-row
invariant-loop-row g l = record {
  empty : (x y : ℕ) → y < l.row-index → marked (slice_index_or l.rows y []) x ≡ false;
  widths : (y : ℕ) → length (slice_index_or l.rows y []) ≡ length (slice_index_or l.initial.rows y []);
}
