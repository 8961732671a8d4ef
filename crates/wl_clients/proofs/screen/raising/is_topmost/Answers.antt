use Rattle.std.proofs.Common.{ap, arith, ◌∙◌}
use Rattle.spec_desktop.specs.Through.{is_topmost}
use Rattle.wl_clients.proofs.OnScreen.Rising.{topmost-last}
use Rattle.wl_clients.proofs.screen.raising.is_topmost.Goals as goal

pub returns : goal.returns
returns g c =
    c.is_of_surface.ensures
    ∙ (topmost-last c.args.surface.client c.args.surface.surface c.toplevels-toplevels.result.now _ _ (omega arith)
    ∙ ap (is_topmost c.args.surface.client c.args.surface.surface) c.toplevels-toplevels.ensures)
