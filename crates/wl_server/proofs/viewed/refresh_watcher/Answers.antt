use Rattle.std.proofs.Common.{◌∙◌, ap, sym, Ok}
use Rattle.wl_server.specs.Watching.{Watching}
use Rattle.wl_server.proofs.Refreshed.{failed-refreshes, told-refreshes}
use Rattle.wl_server.proofs.viewed.refresh_watcher.Goals as goal

pub returns-in-Ok : goal.returns-in-Ok
returns-in-Ok g c =
    let inside : Watching g.row.C.Denot = record { conn = c.watcher.inside.conn; viewer = c.watcher.inside.viewer; is_told = c.watcher.inside.is_told; has_failed = c.watcher.inside.has_failed } in
    let joined = c.changed.ensures in
    told-refreshes c.args.damage.now c.args.frame.now c.args.time c.args.watcher.now inside c.changed.new.self c.update.new.self c.in-Ok.is_told c.watcher.view_is
    (sym c.is_fit.ensures ∙ c.if-not-is_fit.false) (record { joins = joined.joins; heard = joined.heard; out = joined.out; is_over = joined.is_over }) c.in-Ok.ensures.free
    (λ no_more. c.update.ensures.kept (c.in-Ok.is ∙ ap Ok no_more)) (λ all. c.update.ensures.told (c.in-Ok.is ∙ ap Ok all))

pub returns-in-Err : goal.returns-in-Err
returns-in-Err g c =
    let inside : Watching g.row.C.Denot = record { conn = c.watcher.inside.conn; viewer = c.watcher.inside.viewer; is_told = c.watcher.inside.is_told; has_failed = c.watcher.inside.has_failed } in
    let joined = c.changed.ensures in
    failed-refreshes c.args.damage.now c.args.frame.now c.args.time c.args.watcher.now inside c.changed.new.self c.update.new.self c.watcher.view_is
    (sym c.is_fit.ensures ∙ c.if-not-is_fit.false) (record { joins = joined.joins; heard = joined.heard; out = joined.out; is_over = joined.is_over }) c.in-Err.ensures.refused c.in-Err.ensures.heard
