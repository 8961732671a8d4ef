use Rattle.std.proofs.Common.{◌≡◌, true, false, arith}
use Rattle.wl_server.specs.Phases.{IsSixteen, ReadsOnce}
use Rattle.wl_server.specs.Ways.{ways}
use Rattle.wl_server.proofs.FedPieces.{fed-all, fed-last, fed-more, fed-none}
use Rattle.wl_server.proofs.Taking.{Takes-is}
use Rattle.wl_server.proofs.reading.read_client.Goals as goal

pub loop-before-init : goal.loop-before-init
loop-before-init g c = fed-none (ways g.H.Hub.accepts g.H.Hub.reads g.H.Hub.writes g.H.Hub.closes g.H.Hub.fault_count) c.args.client (c.args.hub.now, record c.args.seat.now { has_sent = false }) c.args.recorded.now

pub loop-before-preserved : goal.loop-before-preserved
loop-before-preserved g c =
    let w = ways g.H.Hub.accepts g.H.Hub.reads g.H.Hub.writes g.H.Hub.closes g.H.Hub.fault_count in
    fed-more w c.args.client c.loop-before.before (c.args.hub.now, record c.args.seat.now { has_sent = false }) (c.loop-before.hub, c.loop-before.seat) (c.read_once.new.hub, c.read_once.new.seat) c.args.recorded.now c.loop-before.recorded c.read_once.new.recorded c.loop-before.invariant
    (Takes-is (λ once. ReadsOnce w c.args.client once (c.loop-before.hub, c.loop-before.seat) (c.read_once.new.hub, c.read_once.new.seat)) c.read_once.result true c.loop-before.recorded c.read_once.new.recorded c.if-not-read_once.false c.read_once.ensures)

pub returns-then-not-read_once : goal.returns-then-not-read_once
returns-then-not-read_once g c =
    let w = ways g.H.Hub.accepts g.H.Hub.reads g.H.Hub.writes g.H.Hub.closes g.H.Hub.fault_count in
    fed-last IsSixteen w c.args.client c.loop-before.before (c.args.hub.now, c.args.seat.now) (c.loop-before.hub, c.loop-before.seat) (c.read_once.new.hub, c.read_once.new.seat) c.args.recorded.now c.loop-before.recorded c.read_once.new.recorded c.loop-before-test.true c.loop-before.invariant
    (Takes-is (λ once. ReadsOnce w c.args.client once (c.loop-before.hub, c.loop-before.seat) (c.read_once.new.hub, c.read_once.new.seat)) c.read_once.result false c.loop-before.recorded c.read_once.new.recorded c.if-not-read_once.true c.read_once.ensures)

pub returns : goal.returns
returns g c =
    let all : c.loop-before.before ≡ 16 = omega arith in
    fed-all IsSixteen (ways g.H.Hub.accepts g.H.Hub.reads g.H.Hub.writes g.H.Hub.closes g.H.Hub.fault_count) c.args.client c.loop-before.before (c.args.hub.now, c.args.seat.now) (c.loop-before.hub, c.loop-before.seat) c.args.recorded.now c.loop-before.recorded all c.loop-before.invariant
