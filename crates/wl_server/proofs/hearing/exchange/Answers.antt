use Rattle.wl_server.specs.Acting.{Then}
use Rattle.wl_server.specs.Watching.{Reads, Writing}
use Rattle.wl_server.specs.Ways.{ways}
use Rattle.wl_server.proofs.Taking.{Takes-both}
use Rattle.wl_server.proofs.Watched.{unwatched, watched, writing}
use Rattle.wl_server.proofs.hearing.exchange.Goals as goal

pub returns-in-Some : goal.returns-in-Some
returns-in-Some g c =
    let w = ways g.V.Hub.accepts g.V.Hub.reads g.V.Hub.writes g.V.Hub.closes g.V.Hub.fault_count in
    watched (Then (Writing w) (Reads w c.args.time)) c.args.hub.now c.read_watcher.new.hub c.args.place.now c.in-Some.watcher c.read_watcher.new.watcher c.args.recorded.now c.read_watcher.new.recorded c.in-Some.is
    (Takes-both (Writing w) (Reads w c.args.time) (c.args.hub.now, c.in-Some.watcher) (c.write_watcher.new.hub, c.write_watcher.new.watcher) (c.read_watcher.new.hub, c.read_watcher.new.watcher)
    c.args.recorded.now c.args.recorded.now c.read_watcher.new.recorded (writing w _ _ c.args.recorded.now c.write_watcher.ensures) c.read_watcher.ensures)

pub returns-in_default : goal.returns-in_default
returns-in_default g c =
    let w = ways g.V.Hub.accepts g.V.Hub.reads g.V.Hub.writes g.V.Hub.closes g.V.Hub.fault_count in
    unwatched (Then (Writing w) (Reads w c.args.time)) c.args.hub.now c.args.place.now c.args.recorded.now c.in_default.is
