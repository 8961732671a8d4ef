use Rattle.wl_recording.specs.Side.{files_of}
use Rattle.wl_server.specs.declared.seat.Seat.{Seat}
use Rattle.wl_server.specs.Phases.{StartsIn, TakesIn}
use Rattle.wl_server.specs.Seats.{Seated}
use Rattle.wl_server.specs.Ways.{Serving, serving, ways}
use Rattle.wl_server.proofs.Joining.{on-err}
use Rattle.wl_server.proofs.Taking.{Takes-is}
use Rattle.wl_server.proofs.Telling.{Reports-is}
use Rattle.wl_server.proofs.Turning.{begun-in, taken-in}
use Rattle.wl_server.proofs.phases.take_in.Goals as goal

pub returns-in_err-accept_all-clause-begun : goal.returns-in_err-accept_all-clause-begun
returns-in_err-accept_all-clause-begun g c =
    let w = ways g.H.Hub.accepts g.H.Hub.reads g.H.Hub.writes g.H.Hub.closes g.H.Hub.fault_count in
    let begun : Seated (Seat g.row.H-Conn.Denot) = record { accepted = c.connections.inside.accepted; seats = c.connections.inside.seats } in
    let to : Serving g.row.H.Denot g.row.H-Conn.Denot g.row.S.Denot =
    serving c.accept_all.new.hub (record { accepted = c.accept_all.new.accepted; seats = c.accept_all.new.seats }) c.args.service.now.side c.args.service.now.waiting in
    on-err c.from_residual.result
    (Takes-is (λ (s : Seated (Seat g.row.H-Conn.Denot)). StartsIn w (serving c.args.service.now.hub s c.args.service.now.side c.args.service.now.waiting) to) begun
    c.args.connections.now c.args.service.now.recorded c.accept_all.new.recorded c.connections.view_is
    (begun-in w c.args.service.now.hub c.accept_all.new.hub c.connections.inside.accepted c.accept_all.new.accepted c.connections.inside.seats
    c.accept_all.new.seats c.args.service.now.side c.args.service.now.waiting c.args.service.now.recorded c.accept_all.new.recorded c.in_err-accept_all.ensures.begun))

pub returns-clause-told : goal.returns-clause-told
returns-clause-told g c =
    let w = ways g.H.Hub.accepts g.H.Hub.reads g.H.Hub.writes g.H.Hub.closes g.H.Hub.fault_count in
    let files = files_of g.S.SideFiles.opens g.S.SideFiles.gives g.S.SideFiles.fault_count in
    let begun : Seated (Seat g.row.H-Conn.Denot) = record { accepted = c.connections.inside.accepted; seats = c.connections.inside.seats } in
    let to : Serving g.row.H.Denot g.row.H-Conn.Denot g.row.S.Denot =
    serving c.read_and_fill.new.hub (record { accepted = c.accept_all.new.accepted; seats = c.read_and_fill.new.seats }) c.read_and_fill.new.side c.args.service.now.waiting in
    Reports-is (λ (s : Seated (Seat g.row.H-Conn.Denot)). TakesIn w files (serving c.args.service.now.hub s c.args.service.now.side c.args.service.now.waiting) to) begun
    c.args.connections.now c.args.service.now.recorded c.read_and_fill.new.recorded _ _ c.connections.view_is
    (taken-in w files c.args.service.now.hub c.accept_all.new.hub c.read_and_fill.new.hub c.connections.inside.accepted c.accept_all.new.accepted
    c.connections.inside.seats c.accept_all.new.seats c.read_and_fill.new.seats c.args.service.now.side c.read_and_fill.new.side c.args.service.now.waiting
    c.args.service.now.recorded c.accept_all.new.recorded c.read_and_fill.new.recorded _ _
    c.in_ok-accept_all.ensures.told (c.read_and_fill.ensures c.accept_all.new.accepted c.args.service.now.waiting))
