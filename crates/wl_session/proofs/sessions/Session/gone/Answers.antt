use Rattle.std.proofs.Common.{refl, true, false}
use Rattle.spec_desktop.specs.Act.{Leave}
use Rattle.spec_desktop.specs.declared.answers.Done.TheVariants as gave
use Rattle.wl_desk.proofs.Calls.{large-on}
use Rattle.wl_session.proofs.Courses.{leads-step, marked-course}
use Rattle.wl_session.proofs.sessions.Session.gone.Goals as goal

pub returns-then-not-gone-clause-step : goal.returns-then-not-gone-clause-step
returns-then-not-gone-clause-step g c =
    rw (← c.self.view_is) (leads-step (Leave c.args.client) (gave.Gone false) _ _ (c.gone.ensures.stays c.if-not-gone.true))

pub returns-then-not-gone-clause-course : goal.returns-then-not-gone-clause-course
returns-then-not-gone-clause-course g c =
    rw (← c.self.view_is) (marked-course (Leave c.args.client) (gave.Gone false) _ _ refl refl refl c.gone.ensures.sides (c.gone.ensures.stays c.if-not-gone.true) (λ e. absurd (cc)))

pub returns-clause-step : goal.returns-clause-step
returns-clause-step g c =
    rw (← c.self.view_is) (leads-step (Leave c.args.client) (gave.Gone true) _ _ (c.gone.ensures.leads c.if-not-gone.false _ c.settle_all.ensures.settles))

pub returns-clause-course : goal.returns-clause-course
returns-clause-course g c =
    rw (← c.self.view_is) (marked-course (Leave c.args.client) (gave.Gone true) _ _ refl refl refl (large-on _ _ _ c.gone.ensures.sides c.settle_all.ensures.sides)
    (c.gone.ensures.leads c.if-not-gone.false _ c.settle_all.ensures.settles) (λ e. absurd (cc)))
