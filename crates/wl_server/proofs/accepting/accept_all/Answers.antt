use Rattle.std.proofs.Common.{true, false, arith}
use Rattle.wl_session.specs.Course.{moment}
use Rattle.wl_server.specs.Phases.{Accepts, AcceptsOne, Line}
use Rattle.wl_server.specs.Ways.{ways}
use Rattle.wl_server.proofs.Joining.{Reports-zero, accept-all, accept-begun, accept-more, accept-stop, on-err}
use Rattle.wl_server.proofs.Taking.{InTurn-zero}
use Rattle.wl_server.proofs.Telling.{Reports-is}
use Rattle.wl_server.proofs.accepting.accept_all.Goals as goal

pub loop-before-init : goal.loop-before-init
loop-before-init g c =
    let w = (ways g.H.Hub.accepts g.H.Hub.reads g.H.Hub.writes g.H.Hub.closes g.H.Hub.fault_count) in
    let from : Line g.row.H.Denot g.row.H-Conn.Denot = (c.args.hub.now, record { accepted = c.args.accepted.now; seats = c.args.seats.now }) in
    Reports-zero (λ k. Accepts w) from c.args.recorded.now (g.W.Write.contents c.args.report.now) (λ d. InTurn-zero (λ k. Accepts w) from (moment d c.args.recorded.now.session))

pub loop-before-preserved : goal.loop-before-preserved
loop-before-preserved g c =
    let w = (ways g.H.Hub.accepts g.H.Hub.reads g.H.Hub.writes g.H.Hub.closes g.H.Hub.fault_count) in
    let mid : Line g.row.H.Denot g.row.H-Conn.Denot = (c.loop-before.hub, record { accepted = c.loop-before.accepted; seats = c.loop-before.seats }) in
    let to : Line g.row.H.Denot g.row.H-Conn.Denot = (c.accept_one.new.hub, record { accepted = c.accept_one.new.accepted; seats = c.accept_one.new.seats }) in
    accept-more w c.loop-before.before _ mid to _ _ _ _ _ _ c.loop-before.invariant
    (Reports-is (λ more. AcceptsOne w more mid to) _ true _ _ _ _ c.if-not-branch.false c.in_ok-accept_one.ensures.told)

pub returns-then-not-branch-clause-told : goal.returns-then-not-branch-clause-told
returns-then-not-branch-clause-told g c =
    let w = (ways g.H.Hub.accepts g.H.Hub.reads g.H.Hub.writes g.H.Hub.closes g.H.Hub.fault_count) in
    let mid : Line g.row.H.Denot g.row.H-Conn.Denot = (c.loop-before.hub, record { accepted = c.loop-before.accepted; seats = c.loop-before.seats }) in
    let to : Line g.row.H.Denot g.row.H-Conn.Denot = (c.accept_one.new.hub, record { accepted = c.accept_one.new.accepted; seats = c.accept_one.new.seats }) in
    accept-stop w c.loop-before.before _ mid to _ _ _ _ _ _ (omega arith) c.loop-before.invariant
    (Reports-is (λ more. AcceptsOne w more mid to) _ false _ _ _ _ c.if-not-branch.true c.in_ok-accept_one.ensures.told)

pub returns-in_err-accept_one-clause-begun : goal.returns-in_err-accept_one-clause-begun
returns-in_err-accept_one-clause-begun g c =
    let w = (ways g.H.Hub.accepts g.H.Hub.reads g.H.Hub.writes g.H.Hub.closes g.H.Hub.fault_count) in
    on-err c.from_residual.result (accept-begun w c.loop-before.before _ _ _ _ _ _ _ _ (omega arith) c.loop-before.invariant c.in_err-accept_one.ensures.taken)

pub returns-clause-told : goal.returns-clause-told
returns-clause-told g c =
    let w = (ways g.H.Hub.accepts g.H.Hub.reads g.H.Hub.writes g.H.Hub.closes g.H.Hub.fault_count) in
    accept-all w c.loop-before.before _ _ _ _ _ _ (omega arith) c.loop-before.invariant
