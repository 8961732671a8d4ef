use Rattle.std.proofs.Common.{refl}
use Rattle.spec_desktop.specs.Act.{Button}
use Rattle.spec_desktop.specs.declared.answers.Done.TheVariants as gave
use Rattle.wl_desk.proofs.Calls.{large-on}
use Rattle.wl_session.proofs.Courses.{leads-step, marked-course}
use Rattle.wl_session.proofs.sessions.Session.button.Goals as goal

pub returns-clause-step : goal.returns-clause-step
returns-clause-step g c = rw (← c.self.view_is) (leads-step (Button c.args.time c.args.button c.args.pressed) gave.Button _ _ (c.button.ensures.leads _ c.end_all.ensures.ends))

pub returns-clause-course : goal.returns-clause-course
returns-clause-course g c =
    rw (← c.self.view_is) (marked-course (Button c.args.time c.args.button c.args.pressed) gave.Button _ _ refl refl refl (large-on _ _ _ c.button.ensures.sides c.end_all.ensures.sides)
    (c.button.ensures.leads _ c.end_all.ensures.ends) (λ e. absurd (cc)))
