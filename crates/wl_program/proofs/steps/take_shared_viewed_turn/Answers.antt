-- The flush leaves the session, and what the report and the images hold.
use Rattle.wl_recording.specs.Side.{files_of}
use Rattle.wl_server.specs.Sharing.{IsSharedViewedTurn}
use Rattle.wl_server.specs.Ways.{serving, ways}
use Rattle.wl_program.proofs.Ending.{on_ok}
use Rattle.wl_program.proofs.Served.{turn-told}
use Rattle.wl_program.proofs.steps.take_shared_viewed_turn.Goals as goal

pub returns-in-Ok-clause-taken : goal.returns-in-Ok-clause-taken
returns-in-Ok-clause-taken g c =
    on_ok c.flush-flushed.result
    (turn-told (IsSharedViewedTurn (ways g.H.Hub.accepts g.H.Hub.reads g.H.Hub.writes g.H.Hub.closes g.H.Hub.fault_count) (ways g.V.Hub.accepts g.V.Hub.reads g.V.Hub.writes g.V.Hub.closes g.V.Hub.fault_count) (files_of g.S.SideFiles.opens g.S.SideFiles.gives g.S.SideFiles.fault_count) c.args.time c.args.viewing.now.width c.args.viewing.now.height
    (serving c.args.service.now.hub c.args.connections.now c.args.service.now.side c.args.service.now.waiting, (c.args.viewing.now.hub, c.args.viewing.now.watcher)) (
      serving c.shared_turn_viewed-taken.new.service.hub c.shared_turn_viewed-taken.new.connections c.shared_turn_viewed-taken.new.service.side c.shared_turn_viewed-taken.new.service.waiting,
      (c.shared_turn_viewed-taken.new.viewing.hub, c.shared_turn_viewed-taken.new.viewing.watcher),
    ))
    _ _ _ _ _ _ _ _ c.in-Ok.ensures.taken c.flush-flushed.ensures.kept c.flush-flushed.ensures.images)
