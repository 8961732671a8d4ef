use Rattle.std.proofs.Common.{refl}
use Rattle.wl_scene.specs.Focus.{target_of}
use Rattle.spec_desktop.specs.PointerActions.{Button, Enter, Leave, Motion}
use Rattle.wl_desk.proofs.Applying.{one-applied}
use Rattle.wl_desk.proofs.Telling.{entered-applied, left-applied}
use Rattle.wl_desk.proofs.desks.Desk.apply.Goals as goal

pub returns-in-Leave-clause-tells : goal.returns-in-Leave-clause-tells
returns-in-Leave-clause-tells g c = λ ws m telling same of.
    rw c.in-Leave.is (one-applied ws (Leave (target_of c.in-Leave.target)) c.leave.new.self.desk m refl
    (left-applied ws (target_of c.in-Leave.target) c.leave.new.self.desk m (c.leave.ensures.tells m telling)))

pub returns-in-Enter-clause-tells : goal.returns-in-Enter-clause-tells
returns-in-Enter-clause-tells g c = λ ws m telling same of.
    let entered = rw c.in-Enter.is at of in
    rw c.in-Enter.is (one-applied ws (Enter (target_of c.in-Enter.target)) c.enter.new.self.desk m refl
    (entered-applied ws (target_of c.in-Enter.target) c.enter.new.self.desk m (c.enter.ensures.tells ws m telling same entered.1 entered.0)))

pub returns-in-Motion-clause-tells : goal.returns-in-Motion-clause-tells
returns-in-Motion-clause-tells g c = λ ws m telling same of.
    let over = rw c.in-Motion.is at of in
    rw c.in-Motion.is (one-applied ws (Motion c.in-Motion.time (target_of c.in-Motion.target)) c.move_over.new.self.desk m refl
    (c.move_over.ensures.tells ws m telling same over.1 over.0))

pub returns-in-Button-clause-tells : goal.returns-in-Button-clause-tells
returns-in-Button-clause-tells g c = λ ws m telling same of.
    rw c.in-Button.is (one-applied ws (Button c.in-Button.time c.in-Button.button c.in-Button.pressed (target_of c.in-Button.target)) c.press_over.new.self.desk m refl
    (c.press_over.ensures.tells m telling))
