use Rattle.std.proofs.Common.{arith}
use Rattle.std.proofs.lemmas.Grind.{common_steps}
use Rattle.wl_geom.proofs.Counts.{count_at-more}
use Rattle.wl_geom.proofs.parts.push_parts.Goals as goal

pub loop-part-preserved : goal.loop-part-preserved
loop-part-preserved g c = record {
  points = λ x y. grind (arith, c.in_ok-push_part.ensures.points x y, count_at-more, c.loop-part.invariant.points x y);
  ends = λ olds more. c.in_ok-push_part.ensures.ends (c.loop-part.invariant.ends olds more) (more _ _ c.loop-part-test.true);
}

pub returns-clause-points : goal.returns-clause-points
returns-clause-points g c x y = grind (arith, common_steps, c.loop-part.invariant.points x y)
