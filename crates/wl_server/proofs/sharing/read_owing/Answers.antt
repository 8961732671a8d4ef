use Rattle.std.proofs.Common.{◌∙◌, sym}
use Rattle.wl_server.specs.Ways.{ways}
use Rattle.wl_server.proofs.Owing.{passes, reads-on}
use Rattle.wl_server.proofs.sharing.read_owing.Goals as goal

pub returns-then-owes : goal.returns-then-owes
returns-then-owes g c =
    passes (ways g.H.Hub.accepts g.H.Hub.reads g.H.Hub.writes g.H.Hub.closes g.H.Hub.fault_count) c.args.share.paid c.args.client c.saturating_sub-seat.result c.args.hub.now c.args.seat.now c.args.recorded.now (sym c.owes.ensures ∙ c.if-owes.true)
    c.saturating_sub-seat.ensures

pub returns : goal.returns
returns g c =
    reads-on (ways g.H.Hub.accepts g.H.Hub.reads g.H.Hub.writes g.H.Hub.closes g.H.Hub.fault_count) c.args.share.paid c.args.client c.args.hub.now c.args.seat.now
    (c.read_client.new.hub, c.read_client.new.seat) c.args.recorded.now c.read_client.new.recorded (sym c.owes.ensures ∙ c.if-owes.false) c.read_client.ensures
