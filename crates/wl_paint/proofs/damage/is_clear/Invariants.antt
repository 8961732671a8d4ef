use Rattle.std.proofs.Common.{◌≡◌, ℕ, ◌<◌, ◌≤◌, false}
use Rattle.wl_paint.specs.Damage.{has}
use Rattle.wl_paint.proofs.damage.is_clear.Given as goal

-- nothing of the rows so far is damaged
abbrev pub invariant-loop-y : goal.invariant-loop-y
invariant-loop-y g l = (x z : ℕ) → x < l.damage.width → l.fn.rows.first ≤ z → z < l.y → has l.damage x z ≡ false
