use Rattle.wl_server.specs.Acting.{Then}
use Rattle.wl_server.specs.Watching.{Dismisses, IfWatched, Reads, Writing}
use Rattle.wl_server.specs.Ways.{ways}
use Rattle.wl_server.proofs.Taking.{Takes-both}
use Rattle.wl_server.proofs.hearing.attend.Goals as goal

pub returns : goal.returns
returns g c =
    let w = ways g.V.Hub.accepts g.V.Hub.reads g.V.Hub.writes g.V.Hub.closes g.V.Hub.fault_count in
    Takes-both (IfWatched (Then (Writing w) (Reads w c.args.time))) (Dismisses w c.args.time) (c.args.hub.now, c.args.place.now) (c.exchange.new.hub, c.exchange.new.place) (c.dismiss.new.hub, c.dismiss.new.place)
    c.args.recorded.now c.exchange.new.recorded c.dismiss.new.recorded c.exchange.ensures c.dismiss.ensures
