use Rattle.std.proofs.Common.{refl}
use Rattle.spec_desktop.specs.Act.{Connect}
use Rattle.spec_desktop.specs.declared.answers.Done.TheVariants as gave
use Rattle.wl_session.proofs.Courses.{leads-step, marked-course}
use Rattle.wl_session.proofs.sessions.Session.connect.Goals as goal

pub returns-clause-step : goal.returns-clause-step
returns-clause-step g c = rw (← c.self.view_is) (leads-step Connect (gave.Connect c.connect.result) _ _ c.connect.ensures.leads)

pub returns-clause-course : goal.returns-clause-course
returns-clause-course g c =
    rw (← c.self.view_is) (marked-course Connect (gave.Connect c.connect.result) _ _ refl refl refl c.connect.ensures.sides c.connect.ensures.leads (λ _. c.connect.ensures.nothing))
