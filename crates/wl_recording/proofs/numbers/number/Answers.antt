use Rattle.std.proofs.Common.{arith}
use Rattle.wl_recording.proofs.Words.{too_great}
use Rattle.wl_recording.proofs.numbers.number.Goals as goal

pub returns-then-value-from : goal.returns-then-value-from
returns-then-value-from c =
    too_great c.args.word.now c.loop-b.b-index c.loop-b.value c.loop-b-test.true c.loop-b.invariant.value (omega arith)
