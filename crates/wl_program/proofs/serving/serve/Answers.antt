-- The turns of a new session are those that were asked.
use Rattle.std.proofs.Common.{◌∙◌, ap, refl, sym}
use Rattle.std.specs.Prelude.{is_some}
use Rattle.std.proofs.lemmas.Result.{err_from_is_err_and}
use Rattle.wl_server.specs.Recorded.{RecordedView}
use Rattle.wl_program.proofs.Served.{begun-as, images-fail, pointer-fails, socket-fails, turns-ok, unviewed, viewed-as, viewed-ok, write-fails}
use Rattle.wl_program.proofs.serving.serve.Goals as goal

pub returns-in-None-clause-served : goal.returns-in-None-clause-served
returns-in-None-clause-served g c =
    unviewed c.serve_on.result c.args.serve _ _ (sym c.in_ok-viewer.ensures.asked ∙ ap is_some c.in-None.is)
    (turns-ok _ c.serve_on.result c.args.serve c.in_ok-lines.lines.items _ _ _ _ _ _ _ _ _ _ _ (ap (λ (r : RecordedView _). r.session) c.new-service.ensures.recorded ∙ c.recorded.ensures.session) c.in_ok-session.ensures.desk c.in_ok-session.ensures.right
    c.in_ok-session.ensures.first c.in_ok-lines.ensures.unpointed refl refl
    (begun-as c.args.serve _ _ _ _ _ (c.new-service.ensures.hub ∙ c.in_ok-hub.ensures.bound) c.new-connections.ensures
    (c.new-service.ensures.side ∙ c.new-side.ensures) c.new-service.ensures.waiting)
    c.serve_on.ensures.taken)

pub returns-clause-served : goal.returns-clause-served
returns-clause-served g c =
    viewed-ok _ c.serve_viewed.result c.args.serve c.in_ok-lines.lines.items _ _ _ _ _ _ _ _ _ _ _ _ _ (sym c.in_ok-viewer.ensures.asked ∙ ap is_some c.in-Some.is) (ap (λ (r : RecordedView _). r.session) c.new-service.ensures.recorded ∙ c.recorded.ensures.session)
    c.in_ok-session.ensures.desk c.in_ok-session.ensures.right c.in_ok-session.ensures.first c.in_ok-lines.ensures.unpointed refl refl c.new-viewing.ensures.width c.new-viewing.ensures.height
    (viewed-as c.args.serve _ c.in_ok-lines.lines.items _ _
    (begun-as c.args.serve _ _ _ _ _ (c.new-service.ensures.hub ∙ c.in_ok-hub.ensures.bound) c.new-connections.ensures
    (c.new-service.ensures.side ∙ c.new-side.ensures) c.new-service.ensures.waiting)
    (c.new-viewing.ensures.hub ∙ (rw c.in-Some.is at c.in_ok-viewer.ensures.bound)) c.new-viewing.ensures.watcher)
    c.serve_viewed.ensures.taken

pub returns-in_err-ppm-clause-failed : goal.returns-in_err-ppm-clause-failed
returns-in_err-ppm-clause-failed g c =
    let p = err_from_is_err_and c.from_residual.result c.from_residual.ensures.1 in
    rw (p.1, p.2) (images-fail c.args.serve _ _ c.in_err-ppm.ensures)

pub returns-in_err-record-clause-failed : goal.returns-in_err-record-clause-failed
returns-in_err-record-clause-failed g c =
    let p = err_from_is_err_and c.from_residual-in_err-record.result c.from_residual-in_err-record.ensures.1 in
    rw (p.1, p.2) (images-fail c.args.serve _ _ c.in_err-record.ensures)

pub returns-in_err-lines-clause-failed : goal.returns-in_err-lines-clause-failed
returns-in_err-lines-clause-failed g c =
    let p = err_from_is_err_and c.from_residual-in_err-lines.result c.from_residual-in_err-lines.ensures.1 in
    rw (p.1, p.2) (pointer-fails c.args.serve _ _ c.in_err-lines.ensures.failed)

pub returns-in_err-hub-clause-failed : goal.returns-in_err-hub-clause-failed
returns-in_err-hub-clause-failed g c =
    let p = err_from_is_err_and c.from_residual-in_err-hub.result c.from_residual-in_err-hub.ensures.1 in
    rw (p.1, p.2) (socket-fails c.args.serve _ _ c.in_err-hub.ensures.failed)

pub returns-in_err-viewer-clause-failed : goal.returns-in_err-viewer-clause-failed
returns-in_err-viewer-clause-failed g c =
    let p = err_from_is_err_and c.from_residual-in_err-viewer.result c.from_residual-in_err-viewer.ensures.1 in
    rw (p.1, p.2) (socket-fails c.args.serve _ _ c.in_err-viewer.ensures.failed)

pub returns-in-None-clause-failed : goal.returns-in-None-clause-failed
returns-in-None-clause-failed g c = write-fails c.serve_on.result c.args.serve _ _ c.serve_on.ensures.failed

pub returns-clause-failed : goal.returns-clause-failed
returns-clause-failed g c = write-fails c.serve_viewed.result c.args.serve _ _ c.serve_viewed.ensures.failed

pub recorded-requires : goal.recorded-requires
recorded-requires g c = (c.args.serve.size.width, c.args.serve.size.height, c.in_ok-session.ensures.desk)
