use Rattle.std.proofs.Common.{refl}
use Rattle.spec_desktop.specs.Act.{Close}
use Rattle.spec_desktop.specs.declared.answers.Done.TheVariants as gave
use Rattle.wl_session.proofs.Courses.{leads-step, marked-course}
use Rattle.wl_session.proofs.sessions.Session.close.Goals as goal

pub returns-clause-step : goal.returns-clause-step
returns-clause-step g c = rw (← c.self.view_is) (leads-step (Close c.args.client) (gave.Close c.close.result) _ _ c.close.ensures.leads)

pub returns-clause-course : goal.returns-clause-course
returns-clause-course g c =
    rw (← c.self.view_is) (marked-course (Close c.args.client) (gave.Close c.close.result) _ _ refl refl refl c.close.ensures.sides c.close.ensures.leads (λ _. c.close.ensures.nothing))
