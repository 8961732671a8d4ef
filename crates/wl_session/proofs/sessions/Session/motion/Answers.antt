use Rattle.std.proofs.Common.{refl, rules, w32}
use Rattle.std.proofs.lemmas.Int.{to_z-of_z}
use Rattle.std.specs.Prelude.{FitsSigned}
use Rattle.spec_desktop.specs.Act.{Motion}
use Rattle.spec_desktop.specs.declared.answers.Done.TheVariants as gave
use Rattle.wl_desk.proofs.Calls.{large-on}
use Rattle.wl_session.proofs.Courses.{leads-step, marked-course, motion-leads}
use Rattle.wl_session.proofs.sessions.Session.motion.Goals as goal

pub returns-clause-step : goal.returns-clause-step
returns-clause-step g c =
    let x : FitsSigned w32 c.args.x = search rules in
    let y : FitsSigned w32 c.args.y = search rules in
    let leads = motion-leads c.args.time c.args.x c.args.y _ _ (to_z-of_z w32 c.args.x x) (to_z-of_z w32 c.args.y y) _ _ (c.motion.ensures.leads _ c.end_all.ensures.ends) in
    rw (← c.self.view_is) (leads-step (Motion c.args.time c.args.x c.args.y) gave.Motion _ _ leads)

pub returns-clause-course : goal.returns-clause-course
returns-clause-course g c =
    let x : FitsSigned w32 c.args.x = search rules in
    let y : FitsSigned w32 c.args.y = search rules in
    let leads = motion-leads c.args.time c.args.x c.args.y _ _ (to_z-of_z w32 c.args.x x) (to_z-of_z w32 c.args.y y) _ _ (c.motion.ensures.leads _ c.end_all.ensures.ends) in
    rw (← c.self.view_is) (marked-course (Motion c.args.time c.args.x c.args.y) gave.Motion _ _ refl refl refl (large-on _ _ _ c.motion.ensures.sides c.end_all.ensures.sides) leads (λ e. absurd (cc)))
