use Rattle.wl_server.specs.Sharing.{ReadsShare}
use Rattle.wl_server.specs.Ways.{ways}
use Rattle.wl_server.proofs.Places.{seated, unseated}
use Rattle.wl_server.proofs.sharing.read_seat.Goals as goal

pub returns-in-Some : goal.returns-in-Some
returns-in-Some g c =
    seated (ReadsShare (ways g.H.Hub.accepts g.H.Hub.reads g.H.Hub.writes g.H.Hub.closes g.H.Hub.fault_count) c.args.share.paid c.args.client) c.args.hub.now c.read_owing.new.hub c.args.seat.now c.in-Some.seat c.read_owing.new.seat
    c.args.recorded.now c.read_owing.new.recorded c.in-Some.is c.read_owing.ensures

pub returns-in-None : goal.returns-in-None
returns-in-None g c = unseated (ReadsShare (ways g.H.Hub.accepts g.H.Hub.reads g.H.Hub.writes g.H.Hub.closes g.H.Hub.fault_count) c.args.share.paid c.args.client) c.args.hub.now c.args.seat.now c.args.recorded.now c.in-None.is
