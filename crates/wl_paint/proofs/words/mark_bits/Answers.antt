use Rattle.std.proofs.Common.{◌<◌, ◌^◌, arith, rules}
use Rattle.wl_paint.proofs.Bits.{ones_below, ones_grow}
use Rattle.wl_paint.proofs.words.mark_bits.Goals as goal

pub overflow_sub-result : goal.overflow_sub-result
overflow_sub-result c = ones_grow c.args.word c.with_bits-marked.result c.args.low c.args.high c.ranges.word.fits (search rules) c.with_bits-marked.ensures

pub returns-clause-counted : goal.returns-clause-counted
returns-clause-counted c =
    let more : c.with_bits-marked.result < 2 ^ 64 = search rules in
    let grown = ones_grow c.args.word c.with_bits-marked.result c.args.low c.args.high c.ranges.word.fits more c.with_bits-marked.ensures in
    omega (arith, grown, ones_below c.args.word c.ranges.word.fits, ones_below c.with_bits-marked.result more)
