use Rattle.std.proofs.Common.{refl}
use Rattle.spec_desktop.specs.Act.{Send}
use Rattle.spec_desktop.specs.declared.answers.Done.TheVariants as gave
use Rattle.wl_session.proofs.Courses.{leads-step, marked-course}
use Rattle.wl_session.proofs.sessions.Session.sent.Goals as goal

pub returns-clause-step : goal.returns-clause-step
returns-clause-step g c = rw (← c.self.view_is) (leads-step (Send c.args.client c.args.count) (gave.Sent c.sent.result) _ _ c.sent.ensures.leads)

pub returns-clause-course : goal.returns-clause-course
returns-clause-course g c =
    rw (← c.self.view_is) (marked-course (Send c.args.client c.args.count) (gave.Sent c.sent.result) _ _ refl refl refl c.sent.ensures.sides c.sent.ensures.leads (λ _. c.sent.ensures.nothing))
