use Rattle.std.proofs.Common.{◌∙◌, ap, sym}
use Rattle.wl_server.specs.Watching.{Watching}
use Rattle.wl_server.specs.Ways.{ways}
use Rattle.wl_server.proofs.Watched.{sends, writes-is, writes-none}
use Rattle.wl_server.proofs.hearing.write_watcher.Goals as goal

pub returns-then-watcher : goal.returns-then-watcher
returns-then-watcher g c =
    writes-none (ways g.V.Hub.accepts g.V.Hub.reads g.V.Hub.writes g.V.Hub.closes g.V.Hub.fault_count) (c.args.hub.now, c.args.watcher.now) (ap (λ (v : Watching _). v.has_failed) (sym c.watcher.view_is) ∙ c.if-watcher.true)

pub returns : goal.returns
returns g c =
    let inside : Watching g.row.V-Conn.Denot = record { conn = c.watcher.inside.conn; viewer = c.watcher.inside.viewer; is_told = c.watcher.inside.is_told; has_failed = c.watcher.inside.has_failed } in
    writes-is (ways g.V.Hub.accepts g.V.Hub.reads g.V.Hub.writes g.V.Hub.closes g.V.Hub.fault_count) c.args.hub.now inside c.args.watcher.now _ c.watcher.view_is
    (sends (ways g.V.Hub.accepts g.V.Hub.reads g.V.Hub.writes g.V.Hub.closes g.V.Hub.fault_count) c.args.hub.now c.deliver-delivered.new.hub inside c.deliver-delivered.new.conn c.sent.new.self c.out.result.now c.deliver-delivered.result.bytes
    c.deliver-delivered.result.is_gone c.if-watcher.false c.out.ensures c.sent.ensures c.deliver-delivered.ensures.written)
