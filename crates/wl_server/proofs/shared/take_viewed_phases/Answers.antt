use Rattle.std.proofs.lemmas.Result.{on_ok_weaker}
use Rattle.wl_recording.specs.Side.{files_of}
use Rattle.wl_server.specs.Sharing.{SharesIn}
use Rattle.wl_server.specs.Ways.{Serving, serving, ways}
use Rattle.wl_server.proofs.Owing.{shares-in-pass}
use Rattle.wl_server.proofs.Turned.{served-viewed}
use Rattle.wl_server.proofs.shared.take_viewed_phases.Goals as goal

pub returns-clause-taken : goal.returns-clause-taken
returns-clause-taken g c =
    let w = ways g.H.Hub.accepts g.H.Hub.reads g.H.Hub.writes g.H.Hub.closes g.H.Hub.fault_count in
    let files = files_of g.S.SideFiles.opens g.S.SideFiles.gives g.S.SideFiles.fault_count in
    let from : Serving g.row.H.Denot g.row.H-Conn.Denot g.row.S.Denot = serving c.args.service.now.hub c.args.connections.now c.args.service.now.side c.args.service.now.waiting in
    let mid : Serving g.row.H.Denot g.row.H-Conn.Denot g.row.S.Denot = serving c.take_shared_in.new.service.hub c.take_shared_in.new.connections c.take_shared_in.new.service.side c.take_shared_in.new.service.waiting in
    let to : Serving g.row.H.Denot g.row.H-Conn.Denot g.row.S.Denot = serving c.give_out.new.service.hub c.give_out.new.connections c.give_out.new.service.side c.give_out.new.service.waiting in
    let shown = c.in_ok-show_viewed.ensures.told in
    on_ok_weaker c.give_out.result
    (λ gives. (
      shown.0,
      served-viewed (SharesIn w files) w c.args.time shown.0 c.args.viewing.now.hub c.args.viewing.now.watcher c.show_viewed.new.place from mid to
          c.args.service.now.recorded c.take_shared_in.new.service.recorded c.show_viewed.new.recorded c.give_out.new.service.recorded _ _ _ _ _ _
          (shares-in-pass w files from mid) c.in_ok-take_shared_in.ensures.told shown.1 gives,
    ))
    c.give_out.ensures.told
