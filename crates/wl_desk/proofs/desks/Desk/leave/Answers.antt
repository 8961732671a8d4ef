use Rattle.std.proofs.Common.{ap, false, refl, sym, true, ◌∙◌}
use Rattle.std.specs.Prelude.{is_some}
use Rattle.spec_desktop.specs.Pointing.{left_surface}
use Rattle.spec_desktop.specs.Settling.{leave_drawn}
use Rattle.wl_desk.proofs.Noting.{drawing-keeps}
use Rattle.wl_desk.proofs.Telling.{not-left, told-left}
use Rattle.wl_desk.proofs.desks.Desk.leave.Goals as goal

pub returns-then-is_some-clause-tells : goal.returns-then-is_some-clause-tells
returns-then-is_some-clause-tells g c = λ m telling.
    c.tell.ensures.tells (leave_drawn c.args.target.surface) (left_surface c.args.target.surface) m telling
    (told-left c.args.self.now.desk c.args.target.client c.args.target.surface m telling true
    (rw (← c.self.view_is) (ap is_some (sym c.surface_number.ensures) ∙ sym c.is_some.ensures ∙ c.if-is_some.true)) refl)
    (λ r. drawing-keeps _ r)

pub returns-else-is_some-clause-tells : goal.returns-else-is_some-clause-tells
returns-else-is_some-clause-tells g c = λ m telling. (
  m,
  not-left c.args.self.now.desk c.args.target.client c.args.target.surface m telling false
      (rw (← c.self.view_is) (ap is_some (sym c.surface_number.ensures) ∙ sym c.is_some.ensures ∙ c.if-is_some.false)) refl,
  telling,
)
