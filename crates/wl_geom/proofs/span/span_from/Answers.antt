use Rattle.std.proofs.Common.{arith}
use Rattle.std.proofs.lemmas.Int.{ints}
use Rattle.wl_geom.proofs.Spans.{in_span-cut_start, in_span-none_from}
use Rattle.wl_geom.proofs.span.span_from.Goals as goal

pub returns-then-line-end-clause-points : goal.returns-then-line-end-clause-points
returns-then-line-end-clause-points c at =
    in_span-cut_start c.args.start c.args.len c.args.line _ _ at (omega (arith, ints)) (omega (arith, ints)) (omega (arith, ints))

pub returns-else-line-end-clause-points : goal.returns-else-line-end-clause-points
returns-else-line-end-clause-points c at =
    in_span-none_from c.args.start c.args.len c.args.line _ at (omega (arith, ints))
