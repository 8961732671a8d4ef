use Rattle.std.proofs.Common.{List, map, subst}
use Rattle.std.proofs.lemmas.List.{take_all}
use Rattle.wl_session.specs.declared.steps.Step.{Step}
use Rattle.wl_session.specs.Course.{TakesSteps}
use Rattle.wl_session.specs.Step.{act_of}
use Rattle.wl_session.specs.Run.{film_of}
use Rattle.wl_session.proofs.Runs.{MayStopAt-here, ran-more, ran-none, ran-seen}
use Rattle.wl_session.proofs.sessions.Session.run.Goals as goal

pub loop-n-init : goal.loop-n-init
loop-n-init g c = λ d a. rw c.new-shots.ensures.items (ran-none _ d a)

pub loop-n-preserved : goal.loop-n-preserved
loop-n-preserved g c = λ d a.
    let m = c.loop-n.invariant d a in
    let taken = c.take_step.ensures.taken c.if-not-take_step.false in
    rw taken.1 (ran-more c.args.steps.now c.loop-n.n _ _ _ _ _ taken.0 d c.loop-n-test.true m taken.2)

pub returns-then-not-take_step-clause-err : goal.returns-then-not-take_step-clause-err
returns-then-not-take_step-clause-err g c =
    let refused = c.take_step.ensures.refused c.if-not-take_step.true in (
      map film_of c.loop-n.shots.items,
      ran-seen _ _ _ _ (rw refused.0 c.loop-n.invariant),
    )

pub returns-then-not-take_step-clause-stopped : goal.returns-then-not-take_step-clause-stopped
returns-then-not-take_step-clause-stopped g c =
    MayStopAt-here c.args.steps.now c.loop-n.n _ c.loop-n-test.true (c.take_step.ensures.refused c.if-not-take_step.true).1

pub returns-clause-ok : goal.returns-clause-ok
returns-clause-ok g c =
    subst (λ (steps : List Step). TakesSteps (map act_of steps) (map film_of c.loop-n.shots.items) c.args.self.now c.loop-n.self)
    (take_all c.loop-n.n c.args.steps.now c.loop-n-test.false) c.loop-n.invariant

pub returns-clause-seen : goal.returns-clause-seen
returns-clause-seen g c =
    ran-seen _ _ _ _ (subst (λ (steps : List Step). TakesSteps (map act_of steps) (map film_of c.loop-n.shots.items) c.args.self.now c.loop-n.self)
    (take_all c.loop-n.n c.args.steps.now c.loop-n-test.false) c.loop-n.invariant)
