use Rattle.std.proofs.Common.{refl}
use Rattle.std.proofs.lemmas.Result.{on_ok_weaker}
use Rattle.spec_desktop.specs.Act.{Store}
use Rattle.spec_desktop.specs.declared.answers.Done.TheVariants as gave
use Rattle.wl_replay.specs.Storing.{stored_text}
use Rattle.wl_replay.specs.Told.{words}
use Rattle.wl_replay.proofs.Stages.{after, stands-on, steps-on}
use Rattle.wl_replay.proofs.storing.store.Goals as goal

pub returns-clause-told : goal.returns-clause-told
returns-clause-told g c =
    on_ok_weaker c.write_stored.result
    (λ wrote. λ old stands.
    let place = c.args.place in
    let course = c.store-stored.ensures.course old.now.desktop stands.desk in (
      after (Store place.client place.store place.at c.args.bytes.now) (gave.Store c.store-stored.result) _ _ old course,
      words (stored_text c.args.place c.store-stored.result),
      (c.store-stored.result, steps-on (Store place.client place.store place.at c.args.bytes.now) (gave.Store c.store-stored.result) _ _ old stands course, refl),
      stands-on (Store place.client place.store place.at c.args.bytes.now) (gave.Store c.store-stored.result) _ _ old stands course,
      wrote,
      (refl, refl, refl),
    ))
    c.write_stored.ensures.told
