use Rattle.std.proofs.Common.{◌≡◌, ◌<◌, ◌≤◌, List, None, Option, get_or, subst, sym, arith}
use Rattle.std.proofs.lemmas.List.{get_or_default}
use Rattle.wl_session.specs.Course.{moment}
use Rattle.wl_server.specs.declared.seat.Seat.{Seat}
use Rattle.wl_server.specs.Acting.{InTurn}
use Rattle.wl_server.specs.Phases.{AtSeat, Closes}
use Rattle.wl_server.specs.Ways.{ways}
use Rattle.wl_server.proofs.Joining.{Reports-zero, close-kept, close-next, on-err}
use Rattle.wl_server.proofs.Taking.{InTurn-zero}
use Rattle.wl_server.proofs.Telling.{Reports-is}
use Rattle.wl_server.proofs.closing.close_all.Goals as goal

pub loop-k-init : goal.loop-k-init
loop-k-init g c =
    let w = (ways g.H.Hub.accepts g.H.Hub.reads g.H.Hub.writes g.H.Hub.closes g.H.Hub.fault_count) in
    let from : g.row.H.Denot × List (Option (Seat g.row.H-Conn.Denot)) = (c.args.hub.now, c.args.seats.now) in
    Reports-zero (AtSeat (Closes w)) from c.args.recorded.now (g.W.Write.contents c.args.report.now) (λ d. InTurn-zero (AtSeat (Closes w)) from (moment d c.args.recorded.now.session))

pub loop-k-preserved : goal.loop-k-preserved
loop-k-preserved g c =
    let w = (ways g.H.Hub.accepts g.H.Hub.reads g.H.Hub.writes g.H.Hub.closes g.H.Hub.fault_count) in
    close-next w c.loop-k.k c.args.hub.now c.loop-k.hub c.close_seat.new.hub c.args.seats.now c.loop-k.seats (get_or c.loop-k.seats c.loop-k.k c.index-seats-k.result) c.close_seat.new.seat _ _ _ _ _ _
    (get_or_default c.loop-k.seats c.loop-k.k c.index-seats-k.result None (subst (λ n. c.loop-k.k < n) (sym c.loop-k.auto.seats) c.loop-k-test.true))
    c.loop-k.invariant c.in_ok-close_seat.ensures.told

pub returns-in_err-close_seat-clause-begun : goal.returns-in_err-close_seat-clause-begun
returns-in_err-close_seat-clause-begun g c =
    let w = (ways g.H.Hub.accepts g.H.Hub.reads g.H.Hub.writes g.H.Hub.closes g.H.Hub.fault_count) in
    let within : c.loop-k.k ≤ 32 = omega (arith, c.requires) in
    let kept = c.in_err-close_seat.ensures.kept in
    on-err c.from_residual.result (
      c.loop-k.k,
      within,
      close-kept w c.loop-k.k c.args.hub.now c.loop-k.hub c.close_seat.new.hub c.args.seats.now c.loop-k.seats (get_or c.loop-k.seats c.loop-k.k c.index-seats-k.result) c.close_seat.new.seat
          c.args.recorded.now c.loop-k.recorded c.close_seat.new.recorded _ _
          (get_or_default c.loop-k.seats c.loop-k.k c.index-seats-k.result None (subst (λ n. c.loop-k.k < n) (sym c.loop-k.auto.seats) c.loop-k-test.true))
          kept.0 kept.1 kept.2 c.loop-k.invariant,
    )

pub returns-clause-told : goal.returns-clause-told
returns-clause-told g c =
    let w = (ways g.H.Hub.accepts g.H.Hub.reads g.H.Hub.writes g.H.Hub.closes g.H.Hub.fault_count) in
    let all : c.loop-k.k ≡ 32 = omega (arith, c.requires) in
    Reports-is (λ n. InTurn (AtSeat (Closes w)) n (c.args.hub.now, c.args.seats.now) (c.loop-k.hub, c.loop-k.seats)) c.loop-k.k 32 _ _ _ _ all c.loop-k.invariant
