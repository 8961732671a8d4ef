use Rattle.std.proofs.Common.{arith}
use Rattle.wl_recording.proofs.Alike.{alike-none}
use Rattle.wl_recording.proofs.differing.same_up_to.Goals as goal

pub loop-last-init : goal.loop-last-init
loop-last-init c = record { order = c.requires.order; within = omega arith; alike = alike-none c.args.bytes.now c.args.held.now c.requires.long }
