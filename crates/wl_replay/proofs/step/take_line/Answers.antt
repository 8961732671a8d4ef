use Rattle.wl_recording.specs.Line.{meaning}
use Rattle.wl_recording.specs.Images.{images_in}
use Rattle.wl_replay.specs.Report.{TellsAll, TellsLine}
use Rattle.wl_recording.specs.Side.{files_of}
use Rattle.wl_replay.specs.Told.{Counts}
use Rattle.wl_replay.proofs.Outcomes.{ok_kept}
use Rattle.wl_replay.proofs.Leading.{Leads-all, Leads-passed, Leads-weaker, TellsLine-all}
use Rattle.wl_replay.proofs.step.take_line.Goals as goal

pub returns-in-Nothing-clause-told : goal.returns-in-Nothing-clause-told
returns-in-Nothing-clause-told g c =
    Leads-passed (files_of g.S.SideFiles.opens g.S.SideFiles.gives g.S.SideFiles.fault_count) c.args.side.now
    c.args.asked.line c.args.asked.piece.now c.args.session.now (g.W.Write.contents c.args.writer.now) _
    c.in-Nothing.is

pub returns-clause-told : goal.returns-clause-told
returns-clause-told g c =
    let files = files_of g.S.SideFiles.opens g.S.SideFiles.gives g.S.SideFiles.fault_count in
    let from = c.args.side.now in
    let to = c.take_step.new.side in
    let asked = meaning c.args.asked.piece.now c.args.asked.line in
    let shown = c.in_ok-shown.shown in
    let counts = Counts (images_in g.P.Write.contents c.args.ppm.now) (images_in g.P.Write.contents c.take_step.new.ppm) shown.frames shown.clients in
    let tells = ok_kept c.tell_clients.result c.map_err.result _ _ c.tell_clients.ensures c.map_err.ensures.variant c.in_ok-map_err.was in
    let report = g.W.Write.contents c.args.writer.now in
    let wrote = g.W.Write.contents c.take_step.new.writer in
    let reported = g.W.Write.contents c.tell_clients.new.writer in
    Leads-weaker (TellsAll files asked from to) (TellsLine files asked from to) c.args.session.now c.tell_clients.new.session report reported counts counts
    (TellsLine-all files from to c.args.asked.line c.args.asked.piece.now c.in_default.not-Nothing) (λ told h. h)
    (Leads-all files from to asked c.args.session.now c.take_step.new.session c.tell_clients.new.session report wrote reported _ _ shown.frames shown.clients c.in_ok-shown.ensures.told tells)
