use Rattle.std.proofs.Common.{◌≡◌, ◌+ℤ◌, w32, w64, to_z, of_z, arith}
use Rattle.std.proofs.lemmas.Int.{ints, to_z-of_z}
use Rattle.wl_geom.proofs.Held.{in_span-past}
use Rattle.wl_geom.proofs.span.count_in_span.Goals as goal

pub returns-clause-stops : goal.returns-clause-stops
returns-clause-stops c none =
    let from = to_z-of_z w32 c.args.from c.ranges.from in
    let end : to_z w64 (of_z w64 c.end_of.result) ≡ c.args.start +ℤ c.args.len = omega (arith, ints) in
    in_span-past c.args.start c.args.len c.args.from c.count_before.result (simp (end, from) at (c.count_before.ensures.before 0 (omega arith))) none
