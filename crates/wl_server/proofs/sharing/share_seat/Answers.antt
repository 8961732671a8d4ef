use Rattle.wl_recording.specs.Side.{files_of}
use Rattle.wl_server.specs.Ways.{ways}
use Rattle.wl_server.proofs.Owing.{shares-seat}
use Rattle.wl_server.proofs.sharing.share_seat.Goals as goal

pub returns : goal.returns
returns g c =
    shares-seat (ways g.H.Hub.accepts g.H.Hub.reads g.H.Hub.writes g.H.Hub.closes g.H.Hub.fault_count) (files_of g.S.SideFiles.opens g.S.SideFiles.gives g.S.SideFiles.fault_count) c.args.share.paid c.args.client
    c.args.hub.now c.read_seat-piece.new.hub c.args.side.now c.fill_seat.new.side c.args.seat.now c.read_seat-piece.new.seat c.charge.new.seat
    c.args.recorded.now c.read_seat-piece.new.recorded c.fill_seat.new.recorded c.read_seat-piece.ensures c.fill_seat.ensures c.charge.ensures
