use Rattle.std.proofs.lemmas.Result.{on_ok_weaker}
use Rattle.wl_recording.specs.Side.{files_of}
use Rattle.wl_server.specs.Sharing.{SharesIn}
use Rattle.wl_server.specs.Ways.{Serving, serving, ways}
use Rattle.wl_server.proofs.Owing.{shares-in-pass}
use Rattle.wl_server.proofs.Telling.{Takes-told}
use Rattle.wl_server.proofs.Turning.{begun-closing, begun-early, begun-frame, gives-begun, served-told, shown-to}
use Rattle.wl_server.proofs.shared.take_phases.Goals as goal

pub returns-in_err-take_shared_in-clause-begun : goal.returns-in_err-take_shared_in-clause-begun
returns-in_err-take_shared_in-clause-begun g c =
    let w = ways g.H.Hub.accepts g.H.Hub.reads g.H.Hub.writes g.H.Hub.closes g.H.Hub.fault_count in
    let files = files_of g.S.SideFiles.opens g.S.SideFiles.gives g.S.SideFiles.fault_count in
    begun-early (SharesIn w files) w c.args.time _ _ _ _ c.in_err-take_shared_in.ensures.begun

pub returns-in_err-show-clause-begun : goal.returns-in_err-show-clause-begun
returns-in_err-show-clause-begun g c =
    let w = ways g.H.Hub.accepts g.H.Hub.reads g.H.Hub.writes g.H.Hub.closes g.H.Hub.fault_count in
    let files = files_of g.S.SideFiles.opens g.S.SideFiles.gives g.S.SideFiles.fault_count in
    let from : Serving g.row.H.Denot g.row.H-Conn.Denot g.row.S.Denot = serving c.args.service.now.hub c.args.connections.now c.args.service.now.side c.args.service.now.waiting in
    let mid : Serving g.row.H.Denot g.row.H-Conn.Denot g.row.S.Denot = serving c.take_shared_in.new.service.hub c.take_shared_in.new.connections c.take_shared_in.new.service.side c.take_shared_in.new.service.waiting in
    begun-frame (SharesIn w files) w c.args.time from mid c.args.service.now.recorded c.show.new.recorded
    (shown-to (SharesIn w files) c.args.time from mid c.args.service.now.recorded c.take_shared_in.new.service.recorded c.show.new.recorded
    (Takes-told (SharesIn w files from mid) c.args.service.now.recorded c.take_shared_in.new.service.recorded _ _ c.in_ok-take_shared_in.ensures.told) c.in_err-show.ensures.taken)

pub returns-clause-taken : goal.returns-clause-taken
returns-clause-taken g c =
    let w = ways g.H.Hub.accepts g.H.Hub.reads g.H.Hub.writes g.H.Hub.closes g.H.Hub.fault_count in
    let files = files_of g.S.SideFiles.opens g.S.SideFiles.gives g.S.SideFiles.fault_count in
    let from : Serving g.row.H.Denot g.row.H-Conn.Denot g.row.S.Denot = serving c.args.service.now.hub c.args.connections.now c.args.service.now.side c.args.service.now.waiting in
    let mid : Serving g.row.H.Denot g.row.H-Conn.Denot g.row.S.Denot = serving c.take_shared_in.new.service.hub c.take_shared_in.new.connections c.take_shared_in.new.service.side c.take_shared_in.new.service.waiting in
    let to : Serving g.row.H.Denot g.row.H-Conn.Denot g.row.S.Denot = serving c.give_out.new.service.hub c.give_out.new.connections c.give_out.new.service.side c.give_out.new.service.waiting in
    on_ok_weaker c.give_out.result
    (λ gives. served-told (SharesIn w files) w c.args.time from mid to c.args.service.now.recorded c.take_shared_in.new.service.recorded c.show.new.recorded c.give_out.new.service.recorded _ _ _ _ _ _
    (shares-in-pass w files from mid) c.in_ok-take_shared_in.ensures.told c.in_ok-show.ensures.told gives)
    c.give_out.ensures.told

pub returns-clause-begun : goal.returns-clause-begun
returns-clause-begun g c =
    let w = ways g.H.Hub.accepts g.H.Hub.reads g.H.Hub.writes g.H.Hub.closes g.H.Hub.fault_count in
    let files = files_of g.S.SideFiles.opens g.S.SideFiles.gives g.S.SideFiles.fault_count in
    let from : Serving g.row.H.Denot g.row.H-Conn.Denot g.row.S.Denot = serving c.args.service.now.hub c.args.connections.now c.args.service.now.side c.args.service.now.waiting in
    let mid : Serving g.row.H.Denot g.row.H-Conn.Denot g.row.S.Denot = serving c.take_shared_in.new.service.hub c.take_shared_in.new.connections c.take_shared_in.new.service.side c.take_shared_in.new.service.waiting in
    let to : Serving g.row.H.Denot g.row.H-Conn.Denot g.row.S.Denot = serving c.give_out.new.service.hub c.give_out.new.connections c.give_out.new.service.side c.give_out.new.service.waiting in
    let given = gives-begun w c.give_out.result mid to c.show.new.recorded c.give_out.new.service.recorded _ _ c.give_out.ensures.told c.give_out.ensures.begun in
    begun-closing (SharesIn w files) w c.args.time given.0 from mid to c.args.service.now.recorded c.show.new.recorded c.give_out.new.service.recorded given.1
    (shown-to (SharesIn w files) c.args.time from mid c.args.service.now.recorded c.take_shared_in.new.service.recorded c.show.new.recorded
    (Takes-told (SharesIn w files from mid) c.args.service.now.recorded c.take_shared_in.new.service.recorded _ _ c.in_ok-take_shared_in.ensures.told) c.in_ok-show.ensures.taken) given.2
