use Rattle.std.proofs.Common.{◌≡◌, ◌∙◌, subst, sym}
use Rattle.std.specs.Io.KnownBytes.{Appends}
use Rattle.spec_desktop.specs.Act.{peer_at, status_of}
use Rattle.spec_desktop.specs.declared.answers.Fed.{Fed}
use Rattle.spec_desktop.specs.declared.answers.Fed.TheVariants as fed
use Rattle.wl_server.specs.Telling.{ended_line}
use Rattle.wl_server.specs.Ways.{ways}
use Rattle.wl_server.proofs.Joining.{close-none, close-taken, is-over, not-ended, not-finished}
use Rattle.wl_server.proofs.Telling.{ok-kept}
use Rattle.wl_server.proofs.closing.close_seat.Goals as goal

pub returns-in_default-clause-told : goal.returns-in_default-clause-told
returns-in_default-clause-told g c =
    rw (← c.recorded.view_is) (close-none (ways g.H.Hub.accepts g.H.Hub.reads g.H.Hub.writes g.H.Hub.closes g.H.Hub.fault_count) c.args.client c.args.hub.now c.args.seat.now _ _
    (not-ended c.args.client c.status.result c.args.seat.now c.recorded.inside.session c.in_default.not-Ended c.status.ensures))

pub returns-then-not-is_finished-clause-told : goal.returns-then-not-is_finished-clause-told
returns-then-not-is_finished-clause-told g c =
    rw (← c.recorded.view_is) (close-none (ways g.H.Hub.accepts g.H.Hub.reads g.H.Hub.writes g.H.Hub.closes g.H.Hub.fault_count) c.args.client c.args.hub.now c.args.seat.now _ _
    (not-finished c.args.client c.is_finished.result c.args.seat.now c.recorded.inside.session c.if-not-is_finished.true c.is_finished.ensures))

pub returns-clause-told : goal.returns-clause-told
returns-clause-told g c =
    let wrote = ok-kept c.write_end.result c.map_err.result _ _ c.write_end.ensures c.map_err.ensures.variant c.in_ok-map_err.was in
    rw (← c.recorded.view_is) (close-taken (ways g.H.Hub.accepts g.H.Hub.reads g.H.Hub.writes g.H.Hub.closes g.H.Hub.fault_count) c.args.client c.close.result c.args.hub.now c.hang_up.new.hub
    c.args.seat.now c.take.result c.take.new.self _ c.close.new.self _ _ c.take.ensures.value c.take.ensures.after
    (is-over c.args.client c.status.result c.in-Ended.cause c.is_finished.result c.args.seat.now c.recorded.inside.session c.in-Ended.is c.status.ensures c.if-not-is_finished.false c.is_finished.ensures)
    c.hang_up.ensures (rw (← c.recorded.view_is) at c.close.ensures.course, rw (← c.recorded.view_is) at c.close.ensures.noted)
    (λ d agrees.
    let ended : fed.Ended c.in-Ended.cause ≡ status_of (peer_at c.args.client d) = sym c.in-Ended.is ∙ c.status.ensures d agrees in
    subst (λ (f : Fed). Appends (g.W.Write.contents c.args.report.now) (g.W.Write.contents c.write_end.new.writer) (ended_line c.args.client f)) ended wrote))
