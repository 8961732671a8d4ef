use Rattle.wl_server.specs.Ways.{ways}
use Rattle.wl_server.proofs.Watched.{attends-if, attends-not}
use Rattle.wl_server.proofs.hearing.attend_new.Goals as goal

pub returns-then-not-is_new : goal.returns-then-not-is_new
returns-then-not-is_new g c =
    attends-not c.args.is_new (ways g.V.Hub.accepts g.V.Hub.reads g.V.Hub.writes g.V.Hub.closes g.V.Hub.fault_count) c.args.time (c.args.hub.now, c.args.place.now) c.args.recorded.now c.if-not-is_new.true

pub returns : goal.returns
returns g c =
    attends-if c.args.is_new (ways g.V.Hub.accepts g.V.Hub.reads g.V.Hub.writes g.V.Hub.closes g.V.Hub.fault_count) c.args.time (c.args.hub.now, c.args.place.now) (c.attend.new.hub, c.attend.new.place) c.args.recorded.now c.attend.new.recorded c.if-not-is_new.false c.attend.ensures
