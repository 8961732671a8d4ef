use Rattle.std.proofs.Common.{ap, sym, ◌∙◌}
use Rattle.wl_surface.specs.Whole.{windows}
use Rattle.wl_surface.proofs.Sights.{is_all, same-order}
use Rattle.wl_surface.proofs.surfaces.Surfaces.has_order.Goals as goal

pub returns-in-None : goal.returns-in-None
returns-in-None g c = λ all stand.
    sym (ap (is_all c.args.order.now) c.in-None.is)
    ∙ same-order c.args.order.now (windows 17 all c.args.root) c.meet_windows.result (c.meet_windows.ensures all stand)

pub returns-in-Some : goal.returns-in-Some
returns-in-Some g c = λ all stand.
    sym (ap (is_all c.args.order.now) c.in-Some.is)
    ∙ same-order c.args.order.now (windows 17 all c.args.root) c.meet_windows.result (c.meet_windows.ensures all stand)
