use Rattle.std.proofs.Common.{◌≡◌, refl, ap}
use Rattle.std.proofs.lemmas.Result.{on_ok_weaker}
use Rattle.spec_desktop.specs.Act.{Leave, peer_at, status_of}
use Rattle.spec_desktop.specs.declared.answers.Done.TheVariants as gave
use Rattle.wl_replay.specs.Report.{absent_text}
use Rattle.wl_replay.specs.Told.{words}
use Rattle.wl_replay.proofs.Stages.{after, stands-on, steps-on}
use Rattle.wl_replay.proofs.step.gone.Goals as goal

pub returns-clause-told : goal.returns-clause-told
returns-clause-told g c =
    on_ok_weaker c.write_absent.result
    (λ wrote. λ old stands.
    let course = c.gone.ensures.course old.now.desktop stands.desk in
    let before : c.status-before.result ≡ status_of (peer_at c.args.client old.now.desktop) = c.status-before.ensures old.now.desktop stands.desk in (
      after (Leave c.args.client) (gave.Gone c.gone.result) _ _ old course,
      words (absent_text c.args.client c.status-before.result),
      (_, steps-on (Leave c.args.client) (gave.Gone c.gone.result) _ _ old stands course, ap (λ fed. words (absent_text c.args.client fed)) before),
      stands-on (Leave c.args.client) (gave.Gone c.gone.result) _ _ old stands course,
      wrote,
      (refl, refl, refl),
    ))
    c.write_absent.ensures.told
