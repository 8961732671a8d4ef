use Rattle.std.proofs.Common.{◌≡◌, ◌<◌, None, get_or, subst, sym, arith}
use Rattle.std.proofs.lemmas.List.{get_or_default}
use Rattle.wl_server.specs.Acting.{InTurn}
use Rattle.wl_server.specs.Phases.{AtSeat, Reads}
use Rattle.wl_server.specs.Ways.{ways}
use Rattle.wl_server.proofs.Places.{next-seat}
use Rattle.wl_server.proofs.Taking.{Takes-is, Takes-zero}
use Rattle.wl_server.proofs.reading.read_all.Goals as goal

pub loop-k-init : goal.loop-k-init
loop-k-init g c = Takes-zero (AtSeat (Reads (ways g.H.Hub.accepts g.H.Hub.reads g.H.Hub.writes g.H.Hub.closes g.H.Hub.fault_count))) (c.args.hub.now, c.args.seats.now) c.args.recorded.now

pub loop-k-preserved : goal.loop-k-preserved
loop-k-preserved g c =
    next-seat (Reads (ways g.H.Hub.accepts g.H.Hub.reads g.H.Hub.writes g.H.Hub.closes g.H.Hub.fault_count)) c.loop-k.k c.args.hub.now c.loop-k.hub c.read_seat.new.hub c.args.seats.now c.loop-k.seats (get_or c.loop-k.seats c.loop-k.k c.index-seats-k.result) c.read_seat.new.seat c.args.recorded.now c.loop-k.recorded c.read_seat.new.recorded
    (get_or_default c.loop-k.seats c.loop-k.k c.index-seats-k.result None (subst (λ n. c.loop-k.k < n) (sym c.loop-k.auto.seats) c.loop-k-test.true))
    c.loop-k.invariant c.read_seat.ensures

pub returns : goal.returns
returns g c =
    let all : c.loop-k.k ≡ 32 = omega (arith, c.requires) in
    Takes-is (λ n. InTurn (AtSeat (Reads (ways g.H.Hub.accepts g.H.Hub.reads g.H.Hub.writes g.H.Hub.closes g.H.Hub.fault_count))) n (c.args.hub.now, c.args.seats.now) (c.loop-k.hub, c.loop-k.seats)) c.loop-k.k 32 c.args.recorded.now c.loop-k.recorded all c.loop-k.invariant
