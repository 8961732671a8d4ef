use Rattle.std.proofs.Common.{arith}
use Rattle.wl_recording.specs.Side.{files_of}
use Rattle.wl_server.specs.Phases.{FromFrame}
use Rattle.wl_server.specs.Sharing.{SharesIn}
use Rattle.wl_server.specs.Ways.{Serving, serving, ways}
use Rattle.wl_server.proofs.Telling.{Takes-told}
use Rattle.wl_server.proofs.Turning.{Reports-both, between-begun, between-early}
use Rattle.wl_server.proofs.short.serve_between.Goals as goal

pub returns-in_err-take_shared_in-clause-begun : goal.returns-in_err-take_shared_in-clause-begun
returns-in_err-take_shared_in-clause-begun g c =
    let w = ways g.H.Hub.accepts g.H.Hub.reads g.H.Hub.writes g.H.Hub.closes g.H.Hub.fault_count in
    let files = files_of g.S.SideFiles.opens g.S.SideFiles.gives g.S.SideFiles.fault_count in
    between-early (SharesIn w files) w _ _ _ _ c.in_err-take_shared_in.ensures.begun

pub returns-in_err-give_out-clause-begun : goal.returns-in_err-give_out-clause-begun
returns-in_err-give_out-clause-begun g c =
    let w = ways g.H.Hub.accepts g.H.Hub.reads g.H.Hub.writes g.H.Hub.closes g.H.Hub.fault_count in
    let files = files_of g.S.SideFiles.opens g.S.SideFiles.gives g.S.SideFiles.fault_count in
    let from : Serving g.row.H.Denot g.row.H-Conn.Denot g.row.S.Denot = serving c.args.service.now.hub c.args.connections.now c.args.service.now.side c.args.service.now.waiting in
    let mid : Serving g.row.H.Denot g.row.H-Conn.Denot g.row.S.Denot = serving c.take_shared_in.new.service.hub c.take_shared_in.new.connections c.take_shared_in.new.service.side c.take_shared_in.new.service.waiting in
    let to : Serving g.row.H.Denot g.row.H-Conn.Denot g.row.S.Denot = serving c.give_out.new.service.hub c.give_out.new.connections c.give_out.new.service.side c.give_out.new.service.waiting in
    between-begun (SharesIn w files) w from mid to c.args.service.now.recorded c.take_shared_in.new.service.recorded c.give_out.new.service.recorded
    (Takes-told (SharesIn w files from mid) _ _ _ _ c.in_ok-take_shared_in.ensures.told) c.in_err-give_out.ensures.begun

pub returns-then-count-accepted-clause-begun : goal.returns-then-count-accepted-clause-begun
returns-then-count-accepted-clause-begun g c =
    let w = ways g.H.Hub.accepts g.H.Hub.reads g.H.Hub.writes g.H.Hub.closes g.H.Hub.fault_count in
    let files = files_of g.S.SideFiles.opens g.S.SideFiles.gives g.S.SideFiles.fault_count in
    let from : Serving g.row.H.Denot g.row.H-Conn.Denot g.row.S.Denot = serving c.args.service.now.hub c.args.connections.now c.args.service.now.side c.args.service.now.waiting in
    let mid : Serving g.row.H.Denot g.row.H-Conn.Denot g.row.S.Denot = serving c.take_shared_in.new.service.hub c.take_shared_in.new.connections c.take_shared_in.new.service.side c.take_shared_in.new.service.waiting in
    let to : Serving g.row.H.Denot g.row.H-Conn.Denot g.row.S.Denot = serving c.give_out.new.service.hub c.give_out.new.connections c.give_out.new.service.side c.give_out.new.service.waiting in
    between-begun (SharesIn w files) w from mid to c.args.service.now.recorded c.take_shared_in.new.service.recorded c.give_out.new.service.recorded
    (Takes-told (SharesIn w files from mid) _ _ _ _ c.in_ok-take_shared_in.ensures.told)
    (32, omega arith, Takes-told (FromFrame w 32 mid to) _ _ _ _ c.in_ok-give_out.ensures.told)

pub returns-else-count-accepted-clause-begun : goal.returns-else-count-accepted-clause-begun
returns-else-count-accepted-clause-begun g c =
    let w = ways g.H.Hub.accepts g.H.Hub.reads g.H.Hub.writes g.H.Hub.closes g.H.Hub.fault_count in
    let files = files_of g.S.SideFiles.opens g.S.SideFiles.gives g.S.SideFiles.fault_count in
    let from : Serving g.row.H.Denot g.row.H-Conn.Denot g.row.S.Denot = serving c.args.service.now.hub c.args.connections.now c.args.service.now.side c.args.service.now.waiting in
    let mid : Serving g.row.H.Denot g.row.H-Conn.Denot g.row.S.Denot = serving c.take_shared_in.new.service.hub c.take_shared_in.new.connections c.take_shared_in.new.service.side c.take_shared_in.new.service.waiting in
    let to : Serving g.row.H.Denot g.row.H-Conn.Denot g.row.S.Denot = serving c.give_out.new.service.hub c.give_out.new.connections c.give_out.new.service.side c.give_out.new.service.waiting in
    between-begun (SharesIn w files) w from mid to c.args.service.now.recorded c.take_shared_in.new.service.recorded c.give_out.new.service.recorded
    (Takes-told (SharesIn w files from mid) _ _ _ _ c.in_ok-take_shared_in.ensures.told)
    (32, omega arith, Takes-told (FromFrame w 32 mid to) _ _ _ _ c.in_ok-give_out.ensures.told)

pub returns-then-count-accepted-clause-told : goal.returns-then-count-accepted-clause-told
returns-then-count-accepted-clause-told g c =
    let w = ways g.H.Hub.accepts g.H.Hub.reads g.H.Hub.writes g.H.Hub.closes g.H.Hub.fault_count in
    let files = files_of g.S.SideFiles.opens g.S.SideFiles.gives g.S.SideFiles.fault_count in
    let from : Serving g.row.H.Denot g.row.H-Conn.Denot g.row.S.Denot = serving c.args.service.now.hub c.args.connections.now c.args.service.now.side c.args.service.now.waiting in
    let mid : Serving g.row.H.Denot g.row.H-Conn.Denot g.row.S.Denot = serving c.take_shared_in.new.service.hub c.take_shared_in.new.connections c.take_shared_in.new.service.side c.take_shared_in.new.service.waiting in
    let to : Serving g.row.H.Denot g.row.H-Conn.Denot g.row.S.Denot = serving c.give_out.new.service.hub c.give_out.new.connections c.give_out.new.service.side c.give_out.new.service.waiting in
    Reports-both (SharesIn w files) (FromFrame w 32) from mid to c.args.service.now.recorded c.take_shared_in.new.service.recorded c.give_out.new.service.recorded _ _ _
    c.in_ok-take_shared_in.ensures.told c.in_ok-give_out.ensures.told

pub returns-else-count-accepted-clause-told : goal.returns-else-count-accepted-clause-told
returns-else-count-accepted-clause-told g c =
    let w = ways g.H.Hub.accepts g.H.Hub.reads g.H.Hub.writes g.H.Hub.closes g.H.Hub.fault_count in
    let files = files_of g.S.SideFiles.opens g.S.SideFiles.gives g.S.SideFiles.fault_count in
    let from : Serving g.row.H.Denot g.row.H-Conn.Denot g.row.S.Denot = serving c.args.service.now.hub c.args.connections.now c.args.service.now.side c.args.service.now.waiting in
    let mid : Serving g.row.H.Denot g.row.H-Conn.Denot g.row.S.Denot = serving c.take_shared_in.new.service.hub c.take_shared_in.new.connections c.take_shared_in.new.service.side c.take_shared_in.new.service.waiting in
    let to : Serving g.row.H.Denot g.row.H-Conn.Denot g.row.S.Denot = serving c.give_out.new.service.hub c.give_out.new.connections c.give_out.new.service.side c.give_out.new.service.waiting in
    Reports-both (SharesIn w files) (FromFrame w 32) from mid to c.args.service.now.recorded c.take_shared_in.new.service.recorded c.give_out.new.service.recorded _ _ _
    c.in_ok-take_shared_in.ensures.told c.in_ok-give_out.ensures.told
