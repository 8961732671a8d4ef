use Rattle.std.proofs.Common.{◌+ℤ◌, ◌≤ℤ◌, arith, inl, inr}
use Rattle.std.proofs.lemmas.Int.{ints}
use Rattle.wl_geom.proofs.Spans.{in_span-apart}
use Rattle.wl_geom.proofs.span.may_meet.Goals as goal

pub returns-then-from-end_of : goal.returns-then-from-end_of
returns-then-from-end_of c unmet at =
    let before : (c.args.start +ℤ c.args.len) ≤ℤ c.args.other = grind (arith, ints) in
    in_span-apart c.args.start c.args.len c.args.other c.args.other_len at (inr before)

pub returns-else-from-end_of : goal.returns-else-from-end_of
returns-else-from-end_of c unmet at =
    let after : (c.args.other +ℤ c.args.other_len) ≤ℤ c.args.start = grind (arith, ints) in
    in_span-apart c.args.start c.args.len c.args.other c.args.other_len at (inl after)
