use Rattle.wl_server.specs.Acting.{Then}
use Rattle.wl_server.specs.Watching.{Answering, Writing}
use Rattle.wl_server.specs.Ways.{ways}
use Rattle.wl_server.proofs.Taking.{Takes-both}
use Rattle.wl_server.proofs.Watched.{answering, unwatched, watched, writing}
use Rattle.wl_server.proofs.viewed.reply.Goals as goal

pub returns-in-Some : goal.returns-in-Some
returns-in-Some g c =
    let w = ways g.V.Hub.accepts g.V.Hub.reads g.V.Hub.writes g.V.Hub.closes g.V.Hub.fault_count in
    rw (← c.recorded.view_is) (watched (Then (Answering c.args.time) (Writing w)) c.args.hub.now c.write_watcher.new.hub c.args.place.now c.in-Some.watcher c.write_watcher.new.watcher _ _ c.in-Some.is
    (Takes-both (Answering c.args.time) (Writing w) (c.args.hub.now, c.in-Some.watcher) (c.args.hub.now, c.answer.new.watcher) (c.write_watcher.new.hub, c.write_watcher.new.watcher)
    _ _ _ (answering c.args.time c.args.hub.now _ _ _ c.answer.ensures) (writing w _ _ _ c.write_watcher.ensures)))

pub returns-in_default : goal.returns-in_default
returns-in_default g c =
    let w = ways g.V.Hub.accepts g.V.Hub.reads g.V.Hub.writes g.V.Hub.closes g.V.Hub.fault_count in
    unwatched (Then (Answering c.args.time) (Writing w)) c.args.hub.now c.args.place.now c.args.recorded.now c.in_default.is
