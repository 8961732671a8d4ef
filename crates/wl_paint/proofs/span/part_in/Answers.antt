use Rattle.std.proofs.Common.{◌≡◌, pos, ◌+ℤ◌, ◌-ℤ◌, w64, to_z, of_z, arith}
use Rattle.std.proofs.lemmas.Int.{ints}
use Rattle.wl_paint.proofs.Clips.{in_span-part}
use Rattle.wl_paint.proofs.span.part_in.Goals as goal

pub returns-clause-same : goal.returns-clause-same
returns-clause-same c i h =
    let first : to_z w64 (of_z w64 c.start_from.result) ≡ c.args.start -ℤ pos c.args.at = omega (arith, ints) in
    let end : to_z w64 (of_z w64 c.end_from.result) ≡ (c.args.start +ℤ pos c.args.len) -ℤ pos c.args.at = omega (arith, ints) in
    in_span-part c.args.start _ _ c.args.len c.args.at i c.held_to-first.result c.held_to-end.result c.max.result first end c.max.ensures
    (c.held_to-first.ensures.same i h) (c.held_to-end.ensures.same i h)
