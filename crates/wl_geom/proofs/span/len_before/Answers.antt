use Rattle.std.proofs.Common.{arith}
use Rattle.std.proofs.lemmas.Int.{ints}
use Rattle.wl_geom.proofs.Spans.{in_span-cut_end}
use Rattle.wl_geom.proofs.span.len_before.Goals as goal

pub returns-then-line-end_of-clause-points : goal.returns-then-line-end_of-clause-points
returns-then-line-end_of-clause-points c at =
    in_span-cut_end c.args.start c.args.len c.args.line _ at (omega (arith, ints)) (omega (arith, ints))
