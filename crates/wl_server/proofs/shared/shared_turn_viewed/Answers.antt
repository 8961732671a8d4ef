use Rattle.wl_recording.specs.Side.{files_of}
use Rattle.wl_server.specs.Sharing.{IsSharedViewedTurn, SharesIn}
use Rattle.wl_server.specs.Telling.{IsToldOf}
use Rattle.wl_server.specs.Ways.{serving, ways}
use Rattle.wl_server.proofs.Frames.{served-as}
use Rattle.wl_server.proofs.Turned.{turn-told-viewed}
use Rattle.wl_server.proofs.Owing.{shares-in-pass}
use Rattle.wl_server.proofs.shared.shared_turn_viewed.Goals as goal

pub returns-clause-taken : goal.returns-clause-taken
returns-clause-taken g c =
    let w = ways g.H.Hub.accepts g.H.Hub.reads g.H.Hub.writes g.H.Hub.closes g.H.Hub.fault_count in
    let v = ways g.V.Hub.accepts g.V.Hub.reads g.V.Hub.writes g.V.Hub.closes g.V.Hub.fault_count in
    let files = files_of g.S.SideFiles.opens g.S.SideFiles.gives g.S.SideFiles.fault_count in
    let from = c.args.service.now in
    let viewing = c.args.viewing.now in
    let served = c.take_viewed_phases.new in
    let later = serving served.service.hub served.connections served.service.side served.service.waiting in
    let serves = c.in_ok-take_viewed_phases.ensures.taken in
    served-as (IsSharedViewedTurn w v files c.args.time viewing.width viewing.height (serving from.hub c.args.connections.now from.side from.waiting, (viewing.hub, viewing.watcher)) (later, (c.tell.new.hub, c.tell.new.place)))
    (IsToldOf _ _ _ _) _ _
    (turn-told-viewed (SharesIn w files) (shares-in-pass w files) w v c.args.time viewing.width viewing.height c.hear.result serves.0 from.hub c.args.connections.now from.side from.waiting later
    (viewing.hub, viewing.watcher) (c.hear.new.viewing.hub, c.hear.new.viewing.watcher) (served.viewing.hub, served.viewing.watcher) (c.tell.new.hub, c.tell.new.place)
    _ _ _ _ _ _ _ _ _ c.point_all.ensures.pointed c.hear.ensures.heard (rw (← c.point_all.ensures.left) serves.1) c.tell.ensures)
