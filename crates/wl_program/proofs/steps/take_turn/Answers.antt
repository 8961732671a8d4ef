-- The flush leaves the session, and what the report and the images hold.
use Rattle.wl_recording.specs.Side.{files_of}
use Rattle.wl_server.specs.Phases.{IsTurn, StartsTurn}
use Rattle.wl_server.specs.Ways.{serving, ways}
use Rattle.wl_program.proofs.Ending.{on_ok}
use Rattle.wl_program.proofs.Served.{turn-begun, turn-told}
use Rattle.wl_program.proofs.steps.take_turn.Goals as goal

pub returns-in-Ok-clause-taken : goal.returns-in-Ok-clause-taken
returns-in-Ok-clause-taken g c =
    on_ok c.flush-flushed.result
    (turn-told (IsTurn (ways g.H.Hub.accepts g.H.Hub.reads g.H.Hub.writes g.H.Hub.closes g.H.Hub.fault_count) (files_of g.S.SideFiles.opens g.S.SideFiles.gives g.S.SideFiles.fault_count) c.args.time
    (serving c.args.service.now.hub c.args.connections.now c.args.service.now.side c.args.service.now.waiting)
    (serving c.turn-taken.new.service.hub c.turn-taken.new.connections c.turn-taken.new.service.side c.turn-taken.new.service.waiting))
    _ _ _ _ _ _ _ _ c.in-Ok.ensures.taken c.flush-flushed.ensures.kept c.flush-flushed.ensures.images)

pub returns-in-Ok-clause-begun : goal.returns-in-Ok-clause-begun
returns-in-Ok-clause-begun g c =
    turn-begun (StartsTurn (ways g.H.Hub.accepts g.H.Hub.reads g.H.Hub.writes g.H.Hub.closes g.H.Hub.fault_count)
    (files_of g.S.SideFiles.opens g.S.SideFiles.gives g.S.SideFiles.fault_count) c.args.time
    (serving c.args.service.now.hub c.args.connections.now c.args.service.now.side c.args.service.now.waiting)
    (serving c.turn-taken.new.service.hub c.turn-taken.new.connections c.turn-taken.new.service.side c.turn-taken.new.service.waiting)) _ _ c.turn-taken.ensures.begun

pub returns-in-Err-Write-clause-begun : goal.returns-in-Err-Write-clause-begun
returns-in-Err-Write-clause-begun g c =
    turn-begun (StartsTurn (ways g.H.Hub.accepts g.H.Hub.reads g.H.Hub.writes g.H.Hub.closes g.H.Hub.fault_count)
    (files_of g.S.SideFiles.opens g.S.SideFiles.gives g.S.SideFiles.fault_count) c.args.time
    (serving c.args.service.now.hub c.args.connections.now c.args.service.now.side c.args.service.now.waiting)
    (serving c.turn-taken.new.service.hub c.turn-taken.new.connections c.turn-taken.new.service.side c.turn-taken.new.service.waiting)) _ _ c.turn-taken.ensures.begun
