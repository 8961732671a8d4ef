use Rattle.std.proofs.lemmas.Result.{on_ok_weaker}
use Rattle.wl_recording.specs.Side.{files_of}
use Rattle.wl_server.specs.Sharing.{SharesIn}
use Rattle.wl_server.specs.ShortTurns.{IsShortTurn, StartsShortTurn}
use Rattle.wl_server.specs.Telling.{IsToldOf}
use Rattle.wl_server.specs.Ways.{Serving, serving, ways}
use Rattle.wl_server.proofs.Frames.{served-as, served-of}
use Rattle.wl_server.proofs.Telling.{Tells-unseen}
use Rattle.wl_server.proofs.Turned.{between-pass}
use Rattle.wl_server.proofs.Owing.{shares-in-pass}
use Rattle.wl_server.proofs.short.short_turn.Goals as goal

pub returns-clause-taken : goal.returns-clause-taken
returns-clause-taken g c =
    let w = ways g.H.Hub.accepts g.H.Hub.reads g.H.Hub.writes g.H.Hub.closes g.H.Hub.fault_count in
    let files = files_of g.S.SideFiles.opens g.S.SideFiles.gives g.S.SideFiles.fault_count in
    let from : Serving g.row.H.Denot g.row.H-Conn.Denot g.row.S.Denot = serving c.args.service.now.hub c.args.connections.now c.args.service.now.side c.args.service.now.waiting in
    let to : Serving g.row.H.Denot g.row.H-Conn.Denot g.row.S.Denot = serving c.serve_between.new.service.hub c.serve_between.new.connections c.serve_between.new.service.side c.serve_between.new.service.waiting in
    on_ok_weaker c.serve_between.result
    (λ told images. served-as (IsShortTurn w files from to) (IsToldOf _ _ images images) _ _
    (Tells-unseen (IsShortTurn w files from to) _ _ _ _ images (between-pass (SharesIn w files) (shares-in-pass w files) w from to) told))
    c.serve_between.ensures.told

pub returns-clause-begun : goal.returns-clause-begun
returns-clause-begun g c =
    let w = ways g.H.Hub.accepts g.H.Hub.reads g.H.Hub.writes g.H.Hub.closes g.H.Hub.fault_count in
    let files = files_of g.S.SideFiles.opens g.S.SideFiles.gives g.S.SideFiles.fault_count in
    let from : Serving g.row.H.Denot g.row.H-Conn.Denot g.row.S.Denot = serving c.args.service.now.hub c.args.connections.now c.args.service.now.side c.args.service.now.waiting in
    let to : Serving g.row.H.Denot g.row.H-Conn.Denot g.row.S.Denot = serving c.serve_between.new.service.hub c.serve_between.new.connections c.serve_between.new.service.side c.serve_between.new.service.waiting in
    served-of (StartsShortTurn w files from to) _ _ c.serve_between.ensures.begun
