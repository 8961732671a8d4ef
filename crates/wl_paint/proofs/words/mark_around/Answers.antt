use Rattle.std.proofs.Common.{arith}
use Rattle.wl_paint.proofs.Wholes.{around, counts-join, counts-small}
use Rattle.wl_paint.proofs.words.mark_around.Goals as goal

pub overflow_add-result : goal.overflow_add-result
overflow_add-result c =
    omega (
      arith,
      counts-small c.args.words.now c.mark_span-before.new.words c.mark_span.new.words c.mark_span-before.result c.mark_span.result c.mark_span-before.auto.words
          c.mark_span-before.ensures.counted c.mark_span.ensures.counted c.requires.narrow,
    )

pub returns-clause-points : goal.returns-clause-points
returns-clause-points c x =
    let part = c.part_between-low in
    around _ _ _ c.args.first c.args.end part.result.0 part.result.1 x part.ensures.from part.ensures.order part.ensures.within
    (λ l h. c.requires.whole x (omega (arith, part.ensures.starts)) (omega (arith, part.ensures.ends)))
    (c.mark_span-before.ensures.points x) (c.mark_span.ensures.points x)

pub returns-clause-counted : goal.returns-clause-counted
returns-clause-counted c =
    counts-join c.args.words.now c.mark_span-before.new.words c.mark_span.new.words c.mark_span-before.result c.mark_span.result c.mark_span-before.auto.words
    c.mark_span-before.ensures.counted c.mark_span.ensures.counted
