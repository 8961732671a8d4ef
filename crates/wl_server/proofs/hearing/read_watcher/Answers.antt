use Rattle.std.proofs.Common.{◌≡◌, true, false, arith}
use Rattle.wl_server.specs.Watching.{TakesOnce, TakesPiece}
use Rattle.wl_server.specs.Ways.{ways}
use Rattle.wl_server.proofs.Taking.{Takes-is, Takes-turn, Takes-zero}
use Rattle.wl_server.proofs.Watched.{reads-all, reads-stop}
use Rattle.wl_server.proofs.hearing.read_watcher.Goals as goal

pub loop-before-init : goal.loop-before-init
loop-before-init g c =
    let w = ways g.V.Hub.accepts g.V.Hub.reads g.V.Hub.writes g.V.Hub.closes g.V.Hub.fault_count in
    Takes-zero (λ k. TakesPiece w c.args.time) (c.args.hub.now, c.args.watcher.now) c.args.recorded.now

pub loop-before-preserved : goal.loop-before-preserved
loop-before-preserved g c =
    let w = ways g.V.Hub.accepts g.V.Hub.reads g.V.Hub.writes g.V.Hub.closes g.V.Hub.fault_count in
    Takes-turn (λ k. TakesPiece w c.args.time) c.loop-before.before (c.args.hub.now, c.args.watcher.now) (c.loop-before.hub, c.loop-before.watcher) (c.read_once.new.hub, c.read_once.new.watcher)
    c.args.recorded.now c.loop-before.recorded c.read_once.new.recorded c.loop-before.invariant
    (Takes-is (λ once. TakesOnce w c.args.time once (c.loop-before.hub, c.loop-before.watcher) (c.read_once.new.hub, c.read_once.new.watcher)) c.read_once.result true c.loop-before.recorded c.read_once.new.recorded c.if-not-read_once.false c.read_once.ensures)

pub returns-then-not-read_once : goal.returns-then-not-read_once
returns-then-not-read_once g c =
    let w = ways g.V.Hub.accepts g.V.Hub.reads g.V.Hub.writes g.V.Hub.closes g.V.Hub.fault_count in
    reads-stop w c.args.time c.loop-before.before (c.args.hub.now, c.args.watcher.now) (c.loop-before.hub, c.loop-before.watcher) (c.read_once.new.hub, c.read_once.new.watcher)
    c.args.recorded.now c.loop-before.recorded c.read_once.new.recorded (omega arith) c.loop-before.invariant
    (Takes-is (λ once. TakesOnce w c.args.time once (c.loop-before.hub, c.loop-before.watcher) (c.read_once.new.hub, c.read_once.new.watcher)) c.read_once.result false c.loop-before.recorded c.read_once.new.recorded c.if-not-read_once.true c.read_once.ensures)

pub returns : goal.returns
returns g c =
    let w = ways g.V.Hub.accepts g.V.Hub.reads g.V.Hub.writes g.V.Hub.closes g.V.Hub.fault_count in
    let all : c.loop-before.before ≡ 16 = omega arith in
    reads-all w c.args.time c.loop-before.before (c.args.hub.now, c.args.watcher.now) (c.loop-before.hub, c.loop-before.watcher) c.args.recorded.now c.loop-before.recorded all c.loop-before.invariant
