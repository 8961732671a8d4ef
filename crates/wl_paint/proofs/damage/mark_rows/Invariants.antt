use Rattle.std.proofs.Common.{◌≡◌, ◌||◌, ◌&&◌, ℕ, [], length}
use Rattle.std.specs.Prelude.{slice_index_or}
use Rattle.wl_paint.specs.Damage.{is_between, marked}
use Rattle.wl_paint.proofs.damage.mark_rows.Given as goal

-- the rows so far are marked, and the others are as they were
abbrev pub invariant-loop-y : goal.invariant-loop-y
invariant-loop-y g l = record {
  points : (x k : ℕ) → marked (slice_index_or l.rows k []) x ≡ (marked (slice_index_or l.initial.rows k []) x || (is_between l.left l.right x && is_between l.top l.y k));
  widths : (k : ℕ) → length (slice_index_or l.rows k []) ≡ length (slice_index_or l.initial.rows k []);
}
