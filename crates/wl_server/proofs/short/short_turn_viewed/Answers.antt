use Rattle.wl_recording.specs.Side.{files_of}
use Rattle.wl_server.specs.Sharing.{SharesIn}
use Rattle.wl_server.specs.ShortTurns.{IsShortViewedTurn}
use Rattle.wl_server.specs.Telling.{IsToldOf}
use Rattle.wl_server.specs.Watching.{Place}
use Rattle.wl_server.specs.Ways.{Serving, serving, ways}
use Rattle.wl_server.proofs.Frames.{served-as}
use Rattle.wl_server.proofs.Turned.{short-told-viewed}
use Rattle.wl_server.proofs.Owing.{shares-in-pass}
use Rattle.wl_server.proofs.short.short_turn_viewed.Goals as goal

pub returns-then-is_busy-clause-taken : goal.returns-then-is_busy-clause-taken
returns-then-is_busy-clause-taken g c =
    let w = ways g.H.Hub.accepts g.H.Hub.reads g.H.Hub.writes g.H.Hub.closes g.H.Hub.fault_count in
    let v = ways g.V.Hub.accepts g.V.Hub.reads g.V.Hub.writes g.V.Hub.closes g.V.Hub.fault_count in
    let files = files_of g.S.SideFiles.opens g.S.SideFiles.gives g.S.SideFiles.fault_count in
    let viewing = c.args.viewing.now in
    let from : Serving g.row.H.Denot g.row.H-Conn.Denot g.row.S.Denot = serving c.args.service.now.hub c.args.connections.now c.args.service.now.side c.args.service.now.waiting in
    let to : Serving g.row.H.Denot g.row.H-Conn.Denot g.row.S.Denot = serving c.serve_between.new.service.hub c.serve_between.new.connections c.serve_between.new.service.side c.serve_between.new.service.waiting in
    let q0 : Place g.row.V.Denot g.row.V-Conn.Denot = (viewing.hub, viewing.watcher) in
    let q1 : Place g.row.V.Denot g.row.V-Conn.Denot = (c.hear.new.viewing.hub, c.hear.new.viewing.watcher) in
    λ images. served-as (IsShortViewedTurn w v files c.args.time viewing.width viewing.height (from, q0) (to, q1)) (IsToldOf _ _ images images) _ _
    (short-told-viewed (SharesIn w files) (shares-in-pass w files) w v c.args.time viewing.width viewing.height c.hear.result from to q0 q1 _ _ _ _ _ images
    c.hear.ensures.heard c.in_ok-is_busy.ensures.told)

pub returns-else-is_busy-clause-taken : goal.returns-else-is_busy-clause-taken
returns-else-is_busy-clause-taken g c =
    let w = ways g.H.Hub.accepts g.H.Hub.reads g.H.Hub.writes g.H.Hub.closes g.H.Hub.fault_count in
    let v = ways g.V.Hub.accepts g.V.Hub.reads g.V.Hub.writes g.V.Hub.closes g.V.Hub.fault_count in
    let files = files_of g.S.SideFiles.opens g.S.SideFiles.gives g.S.SideFiles.fault_count in
    let viewing = c.args.viewing.now in
    let from : Serving g.row.H.Denot g.row.H-Conn.Denot g.row.S.Denot = serving c.args.service.now.hub c.args.connections.now c.args.service.now.side c.args.service.now.waiting in
    let to : Serving g.row.H.Denot g.row.H-Conn.Denot g.row.S.Denot = serving c.serve_between.new.service.hub c.serve_between.new.connections c.serve_between.new.service.side c.serve_between.new.service.waiting in
    let q0 : Place g.row.V.Denot g.row.V-Conn.Denot = (viewing.hub, viewing.watcher) in
    let q1 : Place g.row.V.Denot g.row.V-Conn.Denot = (c.hear.new.viewing.hub, c.hear.new.viewing.watcher) in
    λ images. served-as (IsShortViewedTurn w v files c.args.time viewing.width viewing.height (from, q0) (to, q1)) (IsToldOf _ _ images images) _ _
    (short-told-viewed (SharesIn w files) (shares-in-pass w files) w v c.args.time viewing.width viewing.height c.hear.result from to q0 q1 _ _ _ _ _ images
    c.hear.ensures.heard c.in_ok-is_busy.ensures.told)
