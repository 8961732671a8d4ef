use Rattle.wl_server.specs.Phases.{ReadsClient}
use Rattle.wl_server.specs.Ways.{ways}
use Rattle.wl_server.proofs.Places.{seated, unseated}
use Rattle.wl_server.proofs.reading.read_seat.Goals as goal

pub returns-in-Some : goal.returns-in-Some
returns-in-Some g c = seated (ReadsClient (ways g.H.Hub.accepts g.H.Hub.reads g.H.Hub.writes g.H.Hub.closes g.H.Hub.fault_count) c.args.client) c.args.hub.now c.read_client.new.hub c.args.seat.now c.in-Some.seat c.read_client.new.seat c.args.recorded.now c.read_client.new.recorded c.in-Some.is c.read_client.ensures

pub returns-in_default : goal.returns-in_default
returns-in_default g c = unseated (ReadsClient (ways g.H.Hub.accepts g.H.Hub.reads g.H.Hub.writes g.H.Hub.closes g.H.Hub.fault_count) c.args.client) c.args.hub.now c.args.seat.now c.args.recorded.now c.in_default.is
