use Rattle.wl_paint.proofs.Bits.{is_set-not}
use Rattle.wl_paint.proofs.words.wanted_bits.Goals as goal

pub returns-else-wanted : goal.returns-else-wanted
returns-else-wanted c i h = rw c.if-wanted.false (is_set-not c.args.word i c.ranges.word.fits h)
