use Rattle.wl_recording.specs.Side.{files_of}
use Rattle.wl_server.specs.Ways.{ways}
use Rattle.wl_server.proofs.Turning.{read-filled}
use Rattle.wl_server.proofs.phases.read_and_fill.Goals as goal

pub returns : goal.returns
returns g c accepted waiting =
    read-filled (ways g.H.Hub.accepts g.H.Hub.reads g.H.Hub.writes g.H.Hub.closes g.H.Hub.fault_count) (files_of g.S.SideFiles.opens g.S.SideFiles.gives g.S.SideFiles.fault_count)
    c.args.hub.now c.read_all.new.hub accepted c.args.seats.now c.read_all.new.seats c.args.side.now c.fill_all.new.side waiting
    c.args.recorded.now c.read_all.new.recorded c.fill_all.new.recorded c.read_all.ensures c.fill_all.ensures
