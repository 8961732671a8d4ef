use Rattle.std.proofs.Common.{◌∙◌, true, false, refl, ap, sym, inl, inr, arith}
use Rattle.std.specs.Prelude.{◌||◌}
use Rattle.std.proofs.lemmas.List.{length-take-le}
use Rattle.wl_server.specs.Watching.{Watching}
use Rattle.wl_server.specs.Ways.{ways}
use Rattle.wl_server.proofs.Watched.{neither-left, neither-right, once-is, one-of, takes-none, takes-piece}
use Rattle.wl_server.proofs.hearing.read_once.Goals as goal

pub returns-then-is_left : goal.returns-then-is_left
returns-then-is_left g c = takes-none (ways g.V.Hub.accepts g.V.Hub.reads g.V.Hub.writes g.V.Hub.closes g.V.Hub.fault_count) c.args.time _ _ c.args.recorded.now (inl (one-of _ _ (sym c.is_left.ensures ∙ c.if-is_left.true), refl))

pub returns-in-Bytes : goal.returns-in-Bytes
returns-in-Bytes g c =
    let inside : Watching g.row.V-Conn.Denot = record { conn = c.watcher.inside.conn; viewer = c.watcher.inside.viewer; is_told = c.watcher.inside.is_told; has_failed = c.watcher.inside.has_failed } in
    let came = c.in-Bytes.ensures.came in
    let long = length-take-le c.in-Bytes.count c.receive.new.buf came.1 in
    let going = ap (λ (v : Watching _). v.has_failed || v.viewer.heard.is_bad) c.watcher.view_is ∙ (sym c.is_left.ensures ∙ c.if-is_left.false) in
    once-is (ways g.V.Hub.accepts g.V.Hub.reads g.V.Hub.writes g.V.Hub.closes g.V.Hub.fault_count) c.args.time true c.args.hub.now inside c.args.watcher.now _ c.args.recorded.now c.take_bytes.new.recorded c.watcher.view_is
    (takes-piece (ways g.V.Hub.accepts g.V.Hub.reads g.V.Hub.writes g.V.Hub.closes g.V.Hub.fault_count) c.args.time _ c.receive.new.conn c.args.hub.now c.receive.new.hub inside _ c.args.recorded.now c.take_bytes.new.recorded
    (neither-left _ _ going) (neither-right _ _ going) (omega (arith, long, came.0)) (omega (arith, long, came.1)) came.2 (c.in-Bytes.ensures.calm (λ e. cc))
    (ap (λ v. record inside { conn = c.receive.new.conn; viewer = v }) c.take_bytes.ensures.heard) c.take_bytes.ensures.taken)

pub returns-in-Later : goal.returns-in-Later
returns-in-Later g c =
    let inside : Watching g.row.V-Conn.Denot = record { conn = c.watcher.inside.conn; viewer = c.watcher.inside.viewer; is_told = c.watcher.inside.is_told; has_failed = c.watcher.inside.has_failed } in
    once-is (ways g.V.Hub.accepts g.V.Hub.reads g.V.Hub.writes g.V.Hub.closes g.V.Hub.fault_count) c.args.time false c.args.hub.now inside c.args.watcher.now _ c.args.recorded.now c.args.recorded.now c.watcher.view_is
    (takes-none (ways g.V.Hub.accepts g.V.Hub.reads g.V.Hub.writes g.V.Hub.closes g.V.Hub.fault_count) c.args.time (c.args.hub.now, inside) _ c.args.recorded.now (inr (inl (c.receive.new.conn, c.in-Later.ensures.came, c.in-Later.ensures.calm (λ e. cc), refl))))

pub returns-in-Gone : goal.returns-in-Gone
returns-in-Gone g c =
    let inside : Watching g.row.V-Conn.Denot = record { conn = c.watcher.inside.conn; viewer = c.watcher.inside.viewer; is_told = c.watcher.inside.is_told; has_failed = c.watcher.inside.has_failed } in
    once-is (ways g.V.Hub.accepts g.V.Hub.reads g.V.Hub.writes g.V.Hub.closes g.V.Hub.fault_count) c.args.time false c.args.hub.now inside c.args.watcher.now _ c.args.recorded.now c.args.recorded.now c.watcher.view_is
    (takes-none (ways g.V.Hub.accepts g.V.Hub.reads g.V.Hub.writes g.V.Hub.closes g.V.Hub.fault_count) c.args.time (c.args.hub.now, inside) _ c.args.recorded.now (inr (inr (c.receive.new.conn, c.in-Gone.ensures.came, refl))))
