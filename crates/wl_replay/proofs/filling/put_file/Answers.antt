use Rattle.std.proofs.Common.{◌≡◌, [], Result, Ok, Err, ℕ, refl, ap, sym, subst, ◌∙◌}
use Rattle.std.proofs.KnownBytes.{Appends-nil}
use Rattle.std.proofs.lemmas.Result.{on_ok_weaker}
use Rattle.spec_desktop.specs.declared.answers.Stored.{Stored}
use Rattle.wl_recording.specs.Side.{files_of}
use Rattle.wl_replay.specs.Storing.{TellsFileAs, room_in, stored_text}
use Rattle.wl_replay.specs.Told.{words}
use Rattle.wl_replay.proofs.filling.put_file.Goals as goal

pub returns-in-Err-clause-told : goal.returns-in-Err-clause-told
returns-in-Err-clause-told g c =
    on_ok_weaker c.write_stored.result
    (λ wrote. λ old stands.
    let side = c.args.side.now in
    let room : Err c.in-Err.stored ≡ room_in old.now.desktop c.args.place = sym c.in-Err.is ∙ c.room_for.ensures.room old.now.desktop stands.desk in (
      old,
      words (stored_text c.args.place c.in-Err.stored),
      subst (λ (r : Result ℕ Stored). TellsFileAs (files_of g.S.SideFiles.opens g.S.SideFiles.gives g.S.SideFiles.fault_count) c.args.place c.args.name.now r side side old
          (words (stored_text c.args.place c.in-Err.stored)) old)
          room (refl, refl, refl),
      stands,
      wrote,
      (refl, refl, refl),
    ))
    c.write_stored.ensures.told

pub returns-in-Ok-true-clause-told : goal.returns-in-Ok-true-clause-told
returns-in-Ok-true-clause-told g c = λ old stands.
    let files = files_of g.S.SideFiles.opens g.S.SideFiles.gives g.S.SideFiles.fault_count in
    let room : Ok c.in-Ok.size ≡ room_in old.now.desktop c.args.place = sym c.in-Ok.is ∙ c.room_for.ensures.room old.now.desktop stands.desk in
    let loaded = c.load.ensures.filled (c.in-Ok-true.is ∙ ap Ok c.in-Ok-true.field-0-test) in
    let filled = loaded.2 old stands in (
      filled.0,
      words [],
      subst (λ (r : Result ℕ Stored). TellsFileAs files c.args.place c.args.name.now r c.args.side.now c.load.new.side old (words []) filled.0) room
          (refl, (loaded.0, loaded.1, filled.1)),
      filled.2,
      Appends-nil _,
      (refl, refl, refl),
    )
