use Rattle.spec_desktop.specs.Act.{Send, peer_at, unsent_of}
use Rattle.spec_desktop.specs.declared.answers.Done.TheVariants as gave
use Rattle.std.proofs.Common.{length}
use Rattle.wl_recording.specs.Text.{to_line}
use Rattle.wl_replay.proofs.Stages.{after, stands-on, steps-on}
use Rattle.wl_replay.proofs.Telling.{sends-so}
use Rattle.wl_replay.proofs.tell.send.Goals as goal

pub returns : goal.returns
returns g c = λ d a.
    let bytes = c.in-Some.bytes.now in
    let course = c.sent.ensures.course d.now.desktop a.desk in
    let waits = rw c.in-Some.is at c.out.ensures d.now.desktop a.desk in (
      after (Send c.args.client (length bytes)) (gave.Sent c.sent.result) _ _ d course,
      to_line c.args.client bytes,
      sends-so c.args.client d _ bytes (unsent_of (peer_at c.args.client d.now.desktop)) _ waits c.if-count-eq0.false
          (steps-on (Send c.args.client (length bytes)) (gave.Sent c.sent.result) _ _ d a course),
      stands-on (Send c.args.client (length bytes)) (gave.Sent c.sent.result) _ _ d a course,
      c.in_ok-write_to.ensures,
    )
