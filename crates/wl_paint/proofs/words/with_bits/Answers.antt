use Rattle.wl_paint.proofs.Bits.{is_set-or_mask}
use Rattle.wl_paint.proofs.words.with_bits.Goals as goal

pub returns : goal.returns
returns c i = rw c.bits_between.ensures (is_set-or_mask c.args.word c.args.low c.args.high i)
