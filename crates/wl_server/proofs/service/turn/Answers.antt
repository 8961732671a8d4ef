use Rattle.std.proofs.lemmas.Result.{on_ok_weaker}
use Rattle.wl_recording.specs.Side.{files_of}
use Rattle.wl_server.specs.Phases.{IsTurn, StartsTurn, TakesIn}
use Rattle.wl_server.specs.Ways.{serving, ways}
use Rattle.wl_server.proofs.Frames.{served-of, served-told}
use Rattle.wl_server.proofs.Turning.{turn-begun, turn-told}
use Rattle.wl_server.proofs.service.turn.Goals as goal

pub returns-clause-taken : goal.returns-clause-taken
returns-clause-taken g c =
    let w = ways g.H.Hub.accepts g.H.Hub.reads g.H.Hub.writes g.H.Hub.closes g.H.Hub.fault_count in
    let files = files_of g.S.SideFiles.opens g.S.SideFiles.gives g.S.SideFiles.fault_count in
    let from = c.args.service.now in
    let to = serving c.take_phases.new.service.hub c.take_phases.new.connections c.take_phases.new.service.side c.take_phases.new.service.waiting in
    served-told g.R.Write.contents (IsTurn w files c.args.time (serving from.hub c.args.connections.now from.side from.waiting) to) _ _ _ _ _ _ c.take_phases.result
    (on_ok_weaker c.take_phases.result
    (λ serves. turn-told (TakesIn w files) w c.args.time from.hub c.args.connections.now from.side from.waiting to _ _ _ _ _ _ _ c.point_all.ensures.pointed
    (rw (← c.point_all.ensures.left) serves))
    c.take_phases.ensures.taken)

pub returns-clause-begun : goal.returns-clause-begun
returns-clause-begun g c =
    let w = ways g.H.Hub.accepts g.H.Hub.reads g.H.Hub.writes g.H.Hub.closes g.H.Hub.fault_count in
    let files = files_of g.S.SideFiles.opens g.S.SideFiles.gives g.S.SideFiles.fault_count in
    let from = c.args.service.now in
    let to = serving c.take_phases.new.service.hub c.take_phases.new.connections c.take_phases.new.service.side c.take_phases.new.service.waiting in
    served-of (StartsTurn w files c.args.time (serving from.hub c.args.connections.now from.side from.waiting) to) _ _
    (turn-begun (TakesIn w files) w c.args.time from.hub c.args.connections.now from.side from.waiting to _ _ _ c.point_all.ensures.pointed
    (rw (← c.point_all.ensures.left) c.take_phases.ensures.begun))
