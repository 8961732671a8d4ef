-- The flush leaves the session, and what the report and the images hold.
use Rattle.wl_recording.specs.Side.{files_of}
use Rattle.wl_server.specs.ShortTurns.{IsShortTurn, StartsShortTurn}
use Rattle.wl_server.specs.Ways.{serving, ways}
use Rattle.wl_program.proofs.Served.{turn-begun, turn-told}
use Rattle.wl_program.proofs.steps.take_short_turn.Goals as goal

pub returns-in-Ok-clause-taken : goal.returns-in-Ok-clause-taken
returns-in-Ok-clause-taken g c =
    turn-told (IsShortTurn (ways g.H.Hub.accepts g.H.Hub.reads g.H.Hub.writes g.H.Hub.closes g.H.Hub.fault_count) (files_of g.S.SideFiles.opens g.S.SideFiles.gives g.S.SideFiles.fault_count)
    (serving c.args.service.now.hub c.args.connections.now c.args.service.now.side c.args.service.now.waiting)
    (serving c.short_turn-taken.new.service.hub c.short_turn-taken.new.connections c.short_turn-taken.new.service.side c.short_turn-taken.new.service.waiting))
    _ _ _ _ _ _ _ _ (c.in-Ok.ensures.taken _) c.in_ok-flush.ensures.kept c.in_ok-flush.ensures.images

pub returns-in_err-flush-clause-begun : goal.returns-in_err-flush-clause-begun
returns-in_err-flush-clause-begun g c =
    turn-begun (StartsShortTurn (ways g.H.Hub.accepts g.H.Hub.reads g.H.Hub.writes g.H.Hub.closes g.H.Hub.fault_count) (files_of g.S.SideFiles.opens g.S.SideFiles.gives g.S.SideFiles.fault_count)
    (serving c.args.service.now.hub c.args.connections.now c.args.service.now.side c.args.service.now.waiting)
    (serving c.short_turn-taken.new.service.hub c.short_turn-taken.new.connections c.short_turn-taken.new.service.side c.short_turn-taken.new.service.waiting)) _ _ c.short_turn-taken.ensures.begun

pub returns-in-Ok-clause-begun : goal.returns-in-Ok-clause-begun
returns-in-Ok-clause-begun g c =
    turn-begun (StartsShortTurn (ways g.H.Hub.accepts g.H.Hub.reads g.H.Hub.writes g.H.Hub.closes g.H.Hub.fault_count) (files_of g.S.SideFiles.opens g.S.SideFiles.gives g.S.SideFiles.fault_count)
    (serving c.args.service.now.hub c.args.connections.now c.args.service.now.side c.args.service.now.waiting)
    (serving c.short_turn-taken.new.service.hub c.short_turn-taken.new.connections c.short_turn-taken.new.service.side c.short_turn-taken.new.service.waiting)) _ _ c.short_turn-taken.ensures.begun

pub returns-in-Err-Write-clause-begun : goal.returns-in-Err-Write-clause-begun
returns-in-Err-Write-clause-begun g c =
    turn-begun (StartsShortTurn (ways g.H.Hub.accepts g.H.Hub.reads g.H.Hub.writes g.H.Hub.closes g.H.Hub.fault_count) (files_of g.S.SideFiles.opens g.S.SideFiles.gives g.S.SideFiles.fault_count)
    (serving c.args.service.now.hub c.args.connections.now c.args.service.now.side c.args.service.now.waiting)
    (serving c.short_turn-taken.new.service.hub c.short_turn-taken.new.connections c.short_turn-taken.new.service.side c.short_turn-taken.new.service.waiting)) _ _ c.short_turn-taken.ensures.begun
