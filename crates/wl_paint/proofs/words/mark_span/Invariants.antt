use Rattle.std.proofs.Common.{◌≡◌, ◌+◌, ◌*◌, ◌/◌, ◌<◌, ◌≤◌, ℕ, length, ◌||◌}
use Rattle.std.specs.Prelude.{slice_index}
use Rattle.wl_paint.specs.Damage.{count_below, is_between}
use Rattle.wl_paint.specs.Words.{is_marked}
use Rattle.wl_paint.proofs.words.mark_span.Given as goal

-- the points of the words so far are marked and counted
abbrev pub invariant-loop-k : goal.invariant-loop-k
invariant-loop-k l = record {
  points : (x : ℕ) → x / 64 < l.k → is_marked l.words x ≡ (is_marked l.initial.words x || is_between l.first l.end x);
  rest : (j : ℕ) → l.k ≤ j → slice_index l.words j ≡ slice_index l.initial.words j;
  counted : l.more + count_below (64 * length l.words) (is_marked l.initial.words) ≡ count_below (64 * length l.words) (is_marked l.words);
}
