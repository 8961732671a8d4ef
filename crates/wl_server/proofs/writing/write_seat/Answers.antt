use Rattle.wl_server.specs.Phases.{WritesClient}
use Rattle.wl_server.specs.Ways.{ways}
use Rattle.wl_server.proofs.Places.{seated, unseated}
use Rattle.wl_server.proofs.writing.write_seat.Goals as goal

pub returns-in-Some : goal.returns-in-Some
returns-in-Some g c = seated (WritesClient (ways g.H.Hub.accepts g.H.Hub.reads g.H.Hub.writes g.H.Hub.closes g.H.Hub.fault_count) c.args.client) c.args.hub.now c.write_client.new.hub c.args.seat.now c.in-Some.seat c.write_client.new.seat c.args.recorded.now c.write_client.new.recorded c.in-Some.is c.write_client.ensures

pub returns-in_default : goal.returns-in_default
returns-in_default g c = unseated (WritesClient (ways g.H.Hub.accepts g.H.Hub.reads g.H.Hub.writes g.H.Hub.closes g.H.Hub.fault_count) c.args.client) c.args.hub.now c.args.seat.now c.args.recorded.now c.in_default.is
