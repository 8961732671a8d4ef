use Rattle.std.proofs.Common.{arith, ◌≡◌, length}
use Rattle.wl_recording.proofs.Words.{spaces_end}
use Rattle.wl_recording.proofs.word.spaces.Goals as goal

pub returns-then-b-ne32-clause-value : goal.returns-then-b-ne32-clause-value
returns-then-b-ne32-clause-value c =
    spaces_end c.args.text.now c.loop-i.i (omega arith) c.loop-i.invariant (λ _. c.if-b-ne32.true)

pub returns-clause-value : goal.returns-clause-value
returns-clause-value c =
    let ended : c.loop-i.i ≡ length c.args.text.now = omega (arith, c.loop-i.auto.i-end) in
    spaces_end c.args.text.now (length c.args.text.now) (omega arith) (rw (← ended) c.loop-i.invariant) (λ h. absurd (omega arith))
