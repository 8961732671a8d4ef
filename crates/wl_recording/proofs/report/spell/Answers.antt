use Rattle.std.proofs.Common.{arith, ◌<◌, ◌+◌, ◌*◌, length}
use Rattle.wl_recording.proofs.Digits.{spelt_more}
use Rattle.wl_recording.proofs.report.spell.Goals as goal

pub loop-i-preserved : goal.loop-i-preserved
loop-i-preserved c =
    let room : 2 * c.loop-i.i + 1 < length c.loop-i.digits = omega arith in
    rw (c.digit.ensures, c.digit-in-loop-i.ensures)
    (spelt_more c.loop-i.digits c.args.bytes.now c.loop-i.i room c.loop-i-test.true c.loop-i.invariant)
