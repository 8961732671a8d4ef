use Rattle.std.proofs.Common.{[], Ok, Err, refl, ap}
use Rattle.spec_desktop.specs.Act.{Connect}
use Rattle.spec_desktop.specs.declared.answers.ConnectError.{ConnectError}
use Rattle.spec_desktop.specs.declared.answers.Done.TheVariants as gave
use Rattle.wl_replay.specs.Report.{connect_told}
use Rattle.wl_replay.specs.Told.{words}
use Rattle.wl_recording.specs.Text.{client_line, full_line}
use Rattle.wl_replay.proofs.Outcomes.{ok_kept}
use Rattle.wl_replay.proofs.Stages.{after, stands-on, steps-on}
use Rattle.wl_replay.proofs.step.connect.Goals as goal

pub returns-in_ok-map_err-in-Ok-clause-told : goal.returns-in_ok-map_err-in-Ok-clause-told
returns-in_ok-map_err-in-Ok-clause-told g c = λ old stands.
    let course = c.in-Ok.ensures.course old.now.desktop stands.desk in
    let wrote = ok_kept c.write_client.result c.map_err.result _ _ c.write_client.ensures c.map_err.ensures.variant c.in_ok-map_err-in-Ok.was in (
      after Connect (gave.Connect (Ok c.in-Ok.client)) _ _ old course,
      record { text = client_line c.in-Ok.client; images = []; frames = 0; clients = 1 },
      (Ok c.in-Ok.client, steps-on Connect (gave.Connect (Ok c.in-Ok.client)) _ _ old stands course, refl),
      stands-on Connect (gave.Connect (Ok c.in-Ok.client)) _ _ old stands course,
      wrote,
      (refl, refl, refl),
    )

pub returns-in_ok-map_err-in-Err-Full-clause-told : goal.returns-in_ok-map_err-in-Err-Full-clause-told
returns-in_ok-map_err-in-Err-Full-clause-told g c = λ old stands.
    let course = c.in-Err-Full.ensures.course old.now.desktop stands.desk in
    let wrote = ok_kept c.write_full.result c.map_err-in-Err-Full.result _ _ c.write_full.ensures c.map_err-in-Err-Full.ensures.variant c.in_ok-map_err-in-Err-Full.was in (
      after Connect (gave.Connect (Err c.in-Err-Full.field-0)) _ _ old course,
      words full_line,
      (Err c.in-Err-Full.field-0, steps-on Connect (gave.Connect (Err c.in-Err-Full.field-0)) _ _ old stands course, ap (λ (e : ConnectError). connect_told (Err e)) c.in-Err-Full.field-0-is),
      stands-on Connect (gave.Connect (Err c.in-Err-Full.field-0)) _ _ old stands course,
      wrote,
      (refl, refl, refl),
    )
