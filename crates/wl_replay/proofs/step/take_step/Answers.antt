use Rattle.std.proofs.Common.{refl, rules, w32}
use Rattle.std.proofs.lemmas.Int.{to_z-of_z}
use Rattle.std.specs.Prelude.{FitsSigned}
use Rattle.wl_session.proofs.Courses.{motion-courses}
use Rattle.wl_replay.specs.Report.{TellsButton, TellsBytes, TellsConnect, TellsGone, TellsMotion, TellsNothing, TellsTick}
use Rattle.wl_recording.specs.Side.{files_of}
use Rattle.wl_replay.specs.Storing.{TellsFile, TellsStore}
use Rattle.wl_recording.specs.declared.line.Line.TheVariants as line
use Rattle.wl_replay.proofs.Leading.{Counts-silent, Leads-at, Leads-button, Leads-motion, Leads-nothing}
use Rattle.wl_replay.proofs.step.take_step.Goals as goal

pub returns-in_ok-feed-in-Bytes-clause-told : goal.returns-in_ok-feed-in-Bytes-clause-told
returns-in_ok-feed-in-Bytes-clause-told g c =
    Leads-at (files_of g.S.SideFiles.opens g.S.SideFiles.gives g.S.SideFiles.fault_count) c.args.side.now c.args.side.now c.args.asked.line (line.Bytes c.in-Bytes.client) c.args.asked.piece.now
    (TellsBytes c.in-Bytes.client c.args.asked.piece.now) _ _ _ _ _ _ c.in-Bytes.is
    (λ old new told tells. (tells, refl)) (Counts-silent _ 0) c.in_ok-feed-in-Bytes.ensures.told

pub returns-in_ok-store-in-Store-clause-told : goal.returns-in_ok-store-in-Store-clause-told
returns-in_ok-store-in-Store-clause-told g c =
    Leads-at (files_of g.S.SideFiles.opens g.S.SideFiles.gives g.S.SideFiles.fault_count) c.args.side.now c.args.side.now c.args.asked.line (line.Store c.in-Store.place) c.args.asked.piece.now
    (TellsStore c.in-Store.place c.args.asked.piece.now) _ _ _ _ _ _ c.in-Store.is
    (λ old new told tells. (tells, refl)) (Counts-silent _ 0) c.in_ok-store-in-Store.ensures.told

pub returns-in_ok-gone-in-Gone-clause-told : goal.returns-in_ok-gone-in-Gone-clause-told
returns-in_ok-gone-in-Gone-clause-told g c =
    Leads-at (files_of g.S.SideFiles.opens g.S.SideFiles.gives g.S.SideFiles.fault_count) c.args.side.now c.args.side.now c.args.asked.line (line.Gone c.in-Gone.client) c.args.asked.piece.now
    (TellsGone c.in-Gone.client) _ _ _ _ _ _ c.in-Gone.is
    (λ old new told tells. (tells, refl)) (Counts-silent _ 0) c.in_ok-gone-in-Gone.ensures.told

pub returns-in-Motion-clause-told : goal.returns-in-Motion-clause-told
returns-in-Motion-clause-told g c =
    let m = c.in-Motion in
    let x : FitsSigned w32 m.x = search rules in
    let y : FitsSigned w32 m.y = search rules in
    Leads-at (files_of g.S.SideFiles.opens g.S.SideFiles.gives g.S.SideFiles.fault_count) c.args.side.now c.args.side.now c.args.asked.line (line.Motion m.time m.x m.y) c.args.asked.piece.now
    (TellsMotion m.time m.x m.y) _ _ _ _ _ _ m.is
    (λ old new told tells. (tells, refl)) (λ told counts. counts)
    (Leads-motion m.time m.x m.y c.args.session.now c.motion.new.self (g.W.Write.contents c.args.writer.now) _
    (motion-courses m.time m.x m.y _ _ (to_z-of_z w32 m.x x) (to_z-of_z w32 m.y y) _ _ c.motion.ensures.course))

pub returns-in-Button-clause-told : goal.returns-in-Button-clause-told
returns-in-Button-clause-told g c =
    let b = c.in-Button in
    Leads-at (files_of g.S.SideFiles.opens g.S.SideFiles.gives g.S.SideFiles.fault_count) c.args.side.now c.args.side.now c.args.asked.line (line.Button b.time b.code b.pressed) c.args.asked.piece.now
    (TellsButton b.time b.code b.pressed) _ _ _ _ _ _ b.is
    (λ old new told tells. (tells, refl)) (λ told counts. counts)
    (Leads-button b.time b.code b.pressed c.args.session.now c.button.new.self (g.W.Write.contents c.args.writer.now) _ c.button.ensures.course)

pub returns-in-Nothing-clause-told : goal.returns-in-Nothing-clause-told
returns-in-Nothing-clause-told g c =
    Leads-at (files_of g.S.SideFiles.opens g.S.SideFiles.gives g.S.SideFiles.fault_count) c.args.side.now c.args.side.now c.args.asked.line line.Nothing c.args.asked.piece.now TellsNothing _ _ _ _ _ _
    c.in-Nothing.is (λ old new told tells. (tells, refl)) (λ told counts. counts)
    (Leads-nothing c.args.session.now (g.W.Write.contents c.args.writer.now) _)

pub returns-in_ok-clients-in-Connect-clause-told : goal.returns-in_ok-clients-in-Connect-clause-told
returns-in_ok-clients-in-Connect-clause-told g c =
    Leads-at (files_of g.S.SideFiles.opens g.S.SideFiles.gives g.S.SideFiles.fault_count) c.args.side.now c.args.side.now c.args.asked.line line.Connect c.args.asked.piece.now TellsConnect _ _ _ _ _ _
    c.in-Connect.is
    (λ old new told tells. (tells, refl)) (Counts-silent _ c.in_ok-clients-in-Connect.clients) c.in_ok-clients-in-Connect.ensures.told

pub returns-in_ok-tick-in-Tick-clause-told : goal.returns-in_ok-tick-in-Tick-clause-told
returns-in_ok-tick-in-Tick-clause-told g c =
    Leads-at (files_of g.S.SideFiles.opens g.S.SideFiles.gives g.S.SideFiles.fault_count) c.args.side.now c.args.side.now c.args.asked.line (line.Tick c.in-Tick.time) c.args.asked.piece.now
    (TellsTick c.in-Tick.time) _ _ _ _ _ _ c.in-Tick.is
    (λ old new told tells. (tells, refl)) (λ told counts. counts) c.in_ok-tick-in-Tick.ensures.told

pub returns-in_ok-put_file-in-File-clause-told : goal.returns-in_ok-put_file-in-File-clause-told
returns-in_ok-put_file-in-File-clause-told g c =
    let files = files_of g.S.SideFiles.opens g.S.SideFiles.gives g.S.SideFiles.fault_count in
    let from = c.args.side.now in
    let to = c.put_file.new.side in
    Leads-at files from to c.args.asked.line (line.File c.in-File.place c.in-File.name) c.args.asked.piece.now (TellsFile files c.in-File.place c.in-File.name.now from to) _ _ _ _ _ _ c.in-File.is
    (λ old new told tells. tells) (Counts-silent _ 0) c.in_ok-put_file-in-File.ensures.told
