use Rattle.std.proofs.Common.{sym, ◌∙◌}
use Rattle.wl_scene.specs.Focus.{target_of}
use Rattle.wl_desk.specs.Midway.{unpointed_mid}
use Rattle.wl_desk.proofs.Windows.{unnumbered}
use Rattle.wl_desk.proofs.desks.Desk.window_of.Goals as goal

pub returns-in_err-number : goal.returns-in_err-number
returns-in_err-number g c = λ m telling.
    rw (c.from_residual.ensures, ← c.self.view_is) (unnumbered c.self.inside.clients.desk (unpointed_mid m) (target_of c.args.target) (rw (← c.self.view_is) at telling).kept
    (sym c.in_err-number.was ∙ c.surface_number.ensures))

pub returns : goal.returns
returns g c = λ m telling.
    rw (← c.self.view_is) (c.window.ensures.window (unpointed_mid m) c.args.target.surface (rw (← c.self.view_is) at telling).kept (sym c.surface_number.ensures ∙ c.in_ok-number.was))
