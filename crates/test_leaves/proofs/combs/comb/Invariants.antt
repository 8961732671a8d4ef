use Rattle.std.proofs.Common.{◌≡◌}
use Rattle.test_leaves.proofs.combs.comb.Given as goal

-- the sides stay
abbrev pub invariant-loop-k : goal.invariant-loop-k
invariant-loop-k l = (l.damage.width ≡ l.fn.damage.width) × (l.damage.height ≡ l.fn.damage.height)
