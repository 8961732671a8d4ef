use Rattle.std.proofs.Common.{◌≡◌, ◌∙◌, refl, subst, sym}
use Rattle.spec_desktop.specs.Act.{Close, peer_at, status_of}
use Rattle.spec_desktop.specs.declared.answers.Done.TheVariants as gave
use Rattle.spec_desktop.specs.declared.answers.Fed.{Fed}
use Rattle.spec_desktop.specs.declared.answers.Fed.TheVariants as fed
use Rattle.wl_recording.specs.Text.{end_line}
use Rattle.wl_replay.specs.Clients.{Closes}
use Rattle.wl_replay.proofs.Stages.{after, stands-on, steps-on}
use Rattle.wl_replay.proofs.tell.close.Goals as goal

pub returns-in_ok-write_end : goal.returns-in_ok-write_end
returns-in_ok-write_end g c = λ d a.
    let course = c.close.ensures.course d.now.desktop a.desk in
    let ended : fed.Ended c.in-Ended.cause ≡ status_of (peer_at c.args.client d.now.desktop) = sym c.in-Ended.is ∙ c.status.ensures d.now.desktop a.desk in (
      after (Close c.args.client) (gave.Close c.close.result) _ _ d course,
      end_line c.args.client c.in-Ended.cause,
      subst (λ (f : Fed). Closes c.args.client f d (end_line c.args.client c.in-Ended.cause) (after (Close c.args.client) (gave.Close c.close.result) _ _ d course)) ended
          (gave.Close c.close.result, steps-on (Close c.args.client) (gave.Close c.close.result) _ _ d a course, refl),
      stands-on (Close c.args.client) (gave.Close c.close.result) _ _ d a course,
      c.in_ok-write_end.ensures,
    )
