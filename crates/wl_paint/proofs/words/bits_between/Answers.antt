use Rattle.std.proofs.Common.{arith}
use Rattle.std.proofs.lemmas.Nat.{one_shl, pow_below}
use Rattle.wl_paint.proofs.words.bits_between.Goals as goal

pub overflow_sub-result : goal.overflow_sub-result
overflow_sub-result c = omega (arith, one_shl c.args.low 64 (omega arith), one_shl c.args.high 64 (omega arith), pow_below c.args.low c.args.high c.requires.order)
