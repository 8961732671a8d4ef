use Rattle.std.proofs.Common.{arith, ◌≡◌, length}
use Rattle.wl_recording.proofs.Words.{line_ends}
use Rattle.wl_recording.proofs.range.line_len.Goals as goal

pub returns-then-b-eq10-clause-value : goal.returns-then-b-eq10-clause-value
returns-then-b-eq10-clause-value c =
    line_ends c.args.text.now c.loop-i.i (omega arith) c.loop-i.invariant (λ _. c.if-b-eq10.true)

pub returns-clause-value : goal.returns-clause-value
returns-clause-value c =
    let ended : c.loop-i.i ≡ length c.args.text.now = omega (arith, c.loop-i.auto.i-end) in
    line_ends c.args.text.now (length c.args.text.now) (omega arith) (rw (← ended) c.loop-i.invariant) (λ h. absurd (omega arith))
