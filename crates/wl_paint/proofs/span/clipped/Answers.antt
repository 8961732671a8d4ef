use Rattle.std.proofs.Common.{◌≡◌, ◌+ℤ◌, w64, to_z, of_z, arith}
use Rattle.std.proofs.lemmas.Int.{ints}
use Rattle.wl_paint.proofs.Clips.{in_span-clipped}
use Rattle.wl_paint.proofs.span.clipped.Goals as goal

pub returns-clause-same : goal.returns-clause-same
returns-clause-same c at h =
    let first : to_z w64 (of_z w64 c.from.result) ≡ c.args.start = omega (arith, ints) in
    let end : to_z w64 (of_z w64 c.end_of.result) ≡ c.args.start +ℤ c.args.len = omega (arith, ints) in
    in_span-clipped c.args.start c.args.len _ _ at c.held_to-first.result c.held_to-end.result c.max.result first end c.max.ensures
    (c.held_to-first.ensures.same at h) (c.held_to-end.ensures.same at h)
