use Rattle.std.proofs.Common.{arith}
use Rattle.std.proofs.lemmas.List.Elements.{All-push}
use Rattle.wl_geom.specs.Region.{EndsInRange}
use Rattle.wl_geom.proofs.Counts.{count_at-push, in_rect-empty}
use Rattle.wl_geom.proofs.parts.push_part.Goals as goal

pub returns-then-is_empty-clause-points : goal.returns-then-is_empty-clause-points
returns-then-is_empty-clause-points g c x y = rw (in_rect-empty x y c.args.part.now (c.is_empty.ensures.0 c.if-is_empty.true)) (omega arith)

pub returns-then-is_empty-clause-ends : goal.returns-then-is_empty-clause-ends
returns-then-is_empty-clause-ends g c before here = before

pub returns-in_err-push-clause-ends : goal.returns-in_err-push-clause-ends
returns-in_err-push-clause-ends g c before here = rw c.in_err-push.ensures.items before

pub returns-clause-points : goal.returns-clause-points
returns-clause-points g c x y = rw c.in_ok-push.ensures.items (count_at-push x y c.args.parts.now.items c.args.part.now)

pub returns-clause-ends : goal.returns-clause-ends
returns-clause-ends g c before here = rw c.in_ok-push.ensures.items (All-push EndsInRange c.args.parts.now.items c.args.part.now before here)
