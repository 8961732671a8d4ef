use Rattle.std.proofs.lemmas.Result.{on_ok_weaker}
use Rattle.wl_server.specs.declared.seat.Seat.{Seat}
use Rattle.wl_server.specs.Phases.{FromFrame}
use Rattle.wl_server.specs.Seats.{Seated}
use Rattle.wl_server.specs.Ways.{Serving, serving, ways}
use Rattle.wl_server.proofs.Joining.{on-err-weaker}
use Rattle.wl_server.proofs.Taking.{Takes-is}
use Rattle.wl_server.proofs.Telling.{Reports-is}
use Rattle.wl_server.proofs.Turning.{given-out, given-out-told}
use Rattle.wl_server.proofs.phases.give_out.Goals as goal

pub returns-clause-told : goal.returns-clause-told
returns-clause-told g c =
    let w = ways g.H.Hub.accepts g.H.Hub.reads g.H.Hub.writes g.H.Hub.closes g.H.Hub.fault_count in
    let begun : Seated (Seat g.row.H-Conn.Denot) = record { accepted = c.connections.inside.accepted; seats = c.connections.inside.seats } in
    let to : Serving g.row.H.Denot g.row.H-Conn.Denot g.row.S.Denot =
    serving c.close_all.new.hub (record { accepted = c.connections.inside.accepted; seats = c.close_all.new.seats }) c.args.service.now.side c.args.service.now.waiting in
    on_ok_weaker c.close_all.result
    (λ closes. Reports-is (λ (s : Seated (Seat g.row.H-Conn.Denot)). FromFrame w 32 (serving c.args.service.now.hub s c.args.service.now.side c.args.service.now.waiting) to) begun
    c.args.connections.now c.args.service.now.recorded c.close_all.new.recorded _ _ c.connections.view_is
    (given-out-told w c.args.service.now.hub c.write_all.new.hub c.close_all.new.hub c.connections.inside.accepted c.connections.inside.seats c.write_all.new.seats
    c.close_all.new.seats c.args.service.now.side c.args.service.now.waiting c.args.service.now.recorded c.write_all.new.recorded c.close_all.new.recorded _ _ c.write_all.ensures closes))
    c.close_all.ensures.told

pub returns-clause-begun : goal.returns-clause-begun
returns-clause-begun g c =
    let w = ways g.H.Hub.accepts g.H.Hub.reads g.H.Hub.writes g.H.Hub.closes g.H.Hub.fault_count in
    let begun : Seated (Seat g.row.H-Conn.Denot) = record { accepted = c.connections.inside.accepted; seats = c.connections.inside.seats } in
    let to : Serving g.row.H.Denot g.row.H-Conn.Denot g.row.S.Denot =
    serving c.close_all.new.hub (record { accepted = c.connections.inside.accepted; seats = c.close_all.new.seats }) c.args.service.now.side c.args.service.now.waiting in
    on-err-weaker c.close_all.result
    (λ closed. (
      closed.0,
      closed.1,
      Takes-is (λ (s : Seated (Seat g.row.H-Conn.Denot)). FromFrame w closed.0 (serving c.args.service.now.hub s c.args.service.now.side c.args.service.now.waiting) to) begun
          c.args.connections.now c.args.service.now.recorded c.close_all.new.recorded c.connections.view_is
          (given-out w closed.0 c.args.service.now.hub c.write_all.new.hub c.close_all.new.hub c.connections.inside.accepted c.connections.inside.seats c.write_all.new.seats
          c.close_all.new.seats c.args.service.now.side c.args.service.now.waiting c.args.service.now.recorded c.write_all.new.recorded c.close_all.new.recorded c.write_all.ensures closed.2),
    ))
    c.close_all.ensures.begun
