use Rattle.std.proofs.Common.{◌≡◌, ◌<◌, None, get_or, subst, sym, arith}
use Rattle.std.proofs.lemmas.List.{get_or_default}
use Rattle.wl_recording.specs.Side.{files_of}
use Rattle.wl_server.specs.Acting.{InTurn}
use Rattle.wl_server.specs.Phases.{AtSeat}
use Rattle.wl_server.specs.Sharing.{SharesSeat}
use Rattle.wl_server.specs.Ways.{ways}
use Rattle.wl_server.proofs.Places.{next-seat}
use Rattle.wl_server.proofs.Taking.{Takes-is, Takes-zero}
use Rattle.wl_server.proofs.sharing.share_each.Goals as goal

pub loop-k-init : goal.loop-k-init
loop-k-init g c = Takes-zero (AtSeat (SharesSeat (ways g.H.Hub.accepts g.H.Hub.reads g.H.Hub.writes g.H.Hub.closes g.H.Hub.fault_count) (files_of g.S.SideFiles.opens g.S.SideFiles.gives g.S.SideFiles.fault_count) c.args.share.paid)) ((c.args.hub.now, c.args.side.now), c.args.seats.now) c.args.recorded.now

pub loop-k-preserved : goal.loop-k-preserved
loop-k-preserved g c =
    next-seat (SharesSeat (ways g.H.Hub.accepts g.H.Hub.reads g.H.Hub.writes g.H.Hub.closes g.H.Hub.fault_count) (files_of g.S.SideFiles.opens g.S.SideFiles.gives g.S.SideFiles.fault_count) c.args.share.paid) c.loop-k.k
    (c.args.hub.now, c.args.side.now) (c.loop-k.hub, c.loop-k.side) (c.share_seat.new.hub, c.share_seat.new.side) c.args.seats.now c.loop-k.seats
    (get_or c.loop-k.seats c.loop-k.k c.index-seats-k.result) c.share_seat.new.seat c.args.recorded.now c.loop-k.recorded c.share_seat.new.recorded
    (get_or_default c.loop-k.seats c.loop-k.k c.index-seats-k.result None (subst (λ n. c.loop-k.k < n) (sym c.loop-k.auto.seats) c.loop-k-test.true))
    c.loop-k.invariant c.share_seat.ensures

pub returns : goal.returns
returns g c =
    let all : c.loop-k.k ≡ 32 = omega (arith, c.requires) in
    Takes-is (λ n. InTurn (AtSeat (SharesSeat (ways g.H.Hub.accepts g.H.Hub.reads g.H.Hub.writes g.H.Hub.closes g.H.Hub.fault_count) (files_of g.S.SideFiles.opens g.S.SideFiles.gives g.S.SideFiles.fault_count) c.args.share.paid)) n
    ((c.args.hub.now, c.args.side.now), c.args.seats.now) ((c.loop-k.hub, c.loop-k.side), c.loop-k.seats)) c.loop-k.k 32 c.args.recorded.now c.loop-k.recorded all c.loop-k.invariant
