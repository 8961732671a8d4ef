use Rattle.std.proofs.Common.{◌∙◌, refl, ap, sym, subst}
use Rattle.wl_server.specs.Watching.{Watching}
use Rattle.wl_server.specs.Ways.{ways}
use Rattle.wl_server.proofs.Watched.{loses-place, nobody-dismissed, releasing, stays-there}
use Rattle.wl_server.proofs.hearing.dismiss.Goals as goal

pub returns-in_default : goal.returns-in_default
returns-in_default g c =
    nobody-dismissed (ways g.V.Hub.accepts g.V.Hub.reads g.V.Hub.writes g.V.Hub.closes g.V.Hub.fault_count) c.args.time c.args.hub.now c.args.place.now c.take.new.self c.args.recorded.now (sym c.take.ensures.value ∙ c.in_default.is) c.take.ensures.after

pub returns-then-not-is_dismissed : goal.returns-then-not-is_dismissed
returns-then-not-is_dismissed g c =
    stays-there (ways g.V.Hub.accepts g.V.Hub.reads g.V.Hub.writes g.V.Hub.closes g.V.Hub.fault_count) c.args.time c.args.hub.now c.args.place.now _ c.in-Some.watcher c.args.recorded.now (sym c.take.ensures.value ∙ c.in-Some.is) refl
    (sym c.is_dismissed.ensures ∙ c.if-not-is_dismissed.true)

pub returns : goal.returns
returns g c =
    let there = c.watcher.view_is in
    loses-place (ways g.V.Hub.accepts g.V.Hub.reads g.V.Hub.writes g.V.Hub.closes g.V.Hub.fault_count) c.args.time c.args.hub.now c.close.new.self c.args.place.now c.take.new.self c.in-Some.watcher c.args.recorded.now c.release_all.new.recorded
    (sym c.take.ensures.value ∙ c.in-Some.is) c.take.ensures.after (sym c.is_dismissed.ensures ∙ c.if-not-is_dismissed.false)
    (subst (λ (v : Watching _). g.V.Hub.closes c.args.hub.now v.conn c.close.new.self) there c.close.ensures.closed) c.close.ensures.faults
    (releasing c.args.time _ _ c.args.recorded.now c.release_all.new.recorded (c.held.ensures ∙ ap (λ (v : Watching _). v.viewer.heard.held) there) c.release_all.ensures)
