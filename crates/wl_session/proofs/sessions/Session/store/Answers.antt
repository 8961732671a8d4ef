use Rattle.std.proofs.Common.{refl}
use Rattle.spec_desktop.specs.Act.{Store}
use Rattle.spec_desktop.specs.declared.answers.Done.TheVariants as gave
use Rattle.wl_session.proofs.Courses.{leads-step, marked-course}
use Rattle.wl_session.proofs.sessions.Session.store.Goals as goal

pub returns-clause-step : goal.returns-clause-step
returns-clause-step g c = rw (← c.self.view_is) (leads-step (Store c.args.client c.args.store c.args.at c.args.bytes.now) (gave.Store c.store.result) _ _ c.store.ensures.leads)

pub returns-clause-course : goal.returns-clause-course
returns-clause-course g c =
    rw (← c.self.view_is) (marked-course (Store c.args.client c.args.store c.args.at c.args.bytes.now) (gave.Store c.store.result) _ _ refl refl refl c.store.ensures.sides c.store.ensures.leads (λ _. c.store.ensures.nothing))
