use Rattle.wl_server.specs.Acting.{Then}
use Rattle.wl_server.specs.Watching.{Answering, Dismisses, IfWatched, Writing}
use Rattle.wl_server.specs.Ways.{ways}
use Rattle.wl_server.proofs.Taking.{Takes-both}
use Rattle.wl_server.proofs.viewed.tell.Goals as goal

pub returns : goal.returns
returns g c =
    let w = ways g.V.Hub.accepts g.V.Hub.reads g.V.Hub.writes g.V.Hub.closes g.V.Hub.fault_count in
    Takes-both (IfWatched (Then (Answering c.args.time) (Writing w))) (Dismisses w c.args.time) (c.args.hub.now, c.args.place.now) (c.reply.new.hub, c.reply.new.place) (c.dismiss.new.hub, c.dismiss.new.place)
    c.args.recorded.now c.args.recorded.now c.dismiss.new.recorded c.reply.ensures c.dismiss.ensures
