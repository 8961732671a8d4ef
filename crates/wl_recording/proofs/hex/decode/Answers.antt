use Rattle.std.proofs.Common.{arith, ◌<◌, ◌+◌, length}
use Rattle.wl_recording.proofs.Spelling.{spelt_first, spelt_space, spelt_pair}
use Rattle.wl_recording.proofs.hex.decode.Goals as goal

pub loop-at-init : goal.loop-at-init
loop-at-init g c = record { within = omega arith; spelt = spelt_first _ c.args.text.now c.clear.ensures.items }

pub loop-at-preserved-then-text-at-eq32 : goal.loop-at-preserved-then-text-at-eq32
loop-at-preserved-then-text-at-eq32 g c =
    record {
      within = omega arith;
      spelt = spelt_space _ c.args.text.now c.loop-at.at _ c.loop-at-test.true c.if-text-at-eq32.true c.loop-at.invariant.spelt;
    }

pub loop-at-preserved : goal.loop-at-preserved
loop-at-preserved g c =
    let within : c.loop-at.at + 1 < length c.args.text.now = omega arith in
    record {
      within = omega arith;
      spelt = spelt_pair _ _ c.args.text.now c.loop-at.at c.in-Some.byte _ within c.if-text-at-eq32.false c.in-Some.ensures c.in_ok-push.ensures.items c.loop-at.invariant.spelt;
    }
