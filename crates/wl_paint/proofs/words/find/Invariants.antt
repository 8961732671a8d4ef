use Rattle.std.proofs.Common.{◌≡◌, ℕ, ◌≤◌, ◌<◌, ◌*◌, not}
use Rattle.wl_paint.specs.Words.{is_marked}
use Rattle.wl_paint.proofs.words.find.Given as goal

-- no mark before was the one that is wanted
abbrev pub invariant-loop-k : goal.invariant-loop-k
invariant-loop-k l = (x : ℕ) → l.from ≤ x → x < 64 * l.k → is_marked l.words x ≡ not l.wanted
