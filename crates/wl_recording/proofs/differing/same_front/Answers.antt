use Rattle.wl_recording.proofs.Alike.{alike-more}
use Rattle.wl_recording.proofs.differing.same_front.Goals as goal

pub loop-i-preserved : goal.loop-i-preserved
loop-i-preserved c = alike-more c.args.bytes.now c.args.held.now c.loop-i.i c.requires c.loop-i-test.true c.loop-i.invariant c.if-bytes-i.false
