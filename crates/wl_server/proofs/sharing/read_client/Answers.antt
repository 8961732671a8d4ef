use Rattle.std.proofs.Common.{◌≡◌, ◌+◌, true, false, arith}
use Rattle.wl_server.specs.Phases.{ReadsOnce}
use Rattle.wl_server.specs.Sharing.{IsShareOver}
use Rattle.wl_server.specs.Ways.{ways}
use Rattle.wl_server.proofs.FedPieces.{fed-all, fed-last, fed-more, fed-none}
use Rattle.wl_server.proofs.Taking.{Takes-is}
use Rattle.wl_server.proofs.sharing.read_client.Goals as goal

pub loop-before-init : goal.loop-before-init
loop-before-init g c = record {
  fed = fed-none (ways g.H.Hub.accepts g.H.Hub.reads g.H.Hub.writes g.H.Hub.closes g.H.Hub.fault_count) c.args.client (c.args.hub.now, record c.args.seat.now { has_sent = false }) c.args.recorded.now;
  least = c.first_piece-piece.ensures.least;
  most = c.first_piece-piece.ensures.most;
}

pub loop-before-preserved : goal.loop-before-preserved
loop-before-preserved g c =
    let w = ways g.H.Hub.accepts g.H.Hub.reads g.H.Hub.writes g.H.Hub.closes g.H.Hub.fault_count in
    record {
      fed =
          fed-more w c.args.client c.loop-before.before (c.args.hub.now, record c.args.seat.now { has_sent = false }) (c.loop-before.hub, c.loop-before.seat) (c.read_once.new.hub, c.read_once.new.seat) c.args.recorded.now c.loop-before.recorded c.read_once.new.recorded c.loop-before.invariant.fed
          (Takes-is (λ once. ReadsOnce w c.args.client once (c.loop-before.hub, c.loop-before.seat) (c.read_once.new.hub, c.read_once.new.seat)) c.read_once.result true c.loop-before.recorded c.read_once.new.recorded c.if-not-read_once.false c.read_once.ensures);
      least = c.next_piece-piece.ensures.least;
      most = c.next_piece-piece.ensures.most;
    }

pub returns-then-not-read_once : goal.returns-then-not-read_once
returns-then-not-read_once g c =
    let w = ways g.H.Hub.accepts g.H.Hub.reads g.H.Hub.writes g.H.Hub.closes g.H.Hub.fault_count in
    fed-last IsShareOver w c.args.client c.loop-before.before (c.args.hub.now, c.args.seat.now) (c.loop-before.hub, c.loop-before.seat) (c.read_once.new.hub, c.read_once.new.seat) c.args.recorded.now c.loop-before.recorded c.read_once.new.recorded c.loop-before-test.true c.loop-before.invariant.fed
    (Takes-is (λ once. ReadsOnce w c.args.client once (c.loop-before.hub, c.loop-before.seat) (c.read_once.new.hub, c.read_once.new.seat)) c.read_once.result false c.loop-before.recorded c.read_once.new.recorded c.if-not-read_once.true c.read_once.ensures)

pub returns-then-is_over : goal.returns-then-is_over
returns-then-is_over g c =
    let w = ways g.H.Hub.accepts g.H.Hub.reads g.H.Hub.writes g.H.Hub.closes g.H.Hub.fault_count in
    let within = c.loop-before-test.true in
    fed-all IsShareOver w c.args.client (c.loop-before.before + 1) (c.args.hub.now, c.args.seat.now) (c.read_once.new.hub, c.read_once.new.seat) c.args.recorded.now c.read_once.new.recorded (omega arith, omega (arith, within))
    (fed-more w c.args.client c.loop-before.before (c.args.hub.now, record c.args.seat.now { has_sent = false }) (c.loop-before.hub, c.loop-before.seat) (c.read_once.new.hub, c.read_once.new.seat) c.args.recorded.now c.loop-before.recorded c.read_once.new.recorded c.loop-before.invariant.fed
    (Takes-is (λ once. ReadsOnce w c.args.client once (c.loop-before.hub, c.loop-before.seat) (c.read_once.new.hub, c.read_once.new.seat)) c.read_once.result true c.loop-before.recorded c.read_once.new.recorded c.if-not-read_once.false c.read_once.ensures))

pub returns : goal.returns
returns g c =
    fed-all IsShareOver (ways g.H.Hub.accepts g.H.Hub.reads g.H.Hub.writes g.H.Hub.closes g.H.Hub.fault_count) c.args.client c.loop-before.before (c.args.hub.now, c.args.seat.now) (c.loop-before.hub, c.loop-before.seat) c.args.recorded.now c.loop-before.recorded (omega arith, omega arith) c.loop-before.invariant.fed
