use Rattle.std.proofs.Common.{◌≡◌}
use Rattle.bench_paint.proofs.paint_again.Given as goal

-- the image and the damage have the same sides
abbrev pub invariant-loop : goal.invariant-loop
invariant-loop g l = (l.damage.width ≡ l.frame.width) × (l.damage.height ≡ l.frame.height)
