use Rattle.std.proofs.Common.{rules, w32}
use Rattle.std.proofs.lemmas.Int.{to_z-of_z}
use Rattle.std.specs.Prelude.{FitsSigned}
use Rattle.wl_session.proofs.Courses.{motion-courses, motion-steps}
use Rattle.wl_session.proofs.sessions.Session.step.Goals as goal

pub returns-in-Tick-clause-step : goal.returns-in-Tick-clause-step
returns-in-Tick-clause-step g c = rw c.in-Tick.is c.tick.follows.holds-at-none.0

pub returns-in-Tick-clause-course : goal.returns-in-Tick-clause-course
returns-in-Tick-clause-course g c = rw c.in-Tick.is c.tick.follows.holds-at-none.2

pub returns-in-Connect-clause-step : goal.returns-in-Connect-clause-step
returns-in-Connect-clause-step g c = rw c.in-Connect.is c.connect.ensures.step

pub returns-in-Connect-clause-course : goal.returns-in-Connect-clause-course
returns-in-Connect-clause-course g c = rw c.in-Connect.is c.connect.ensures.course

pub returns-in-Feed-clause-step : goal.returns-in-Feed-clause-step
returns-in-Feed-clause-step g c = rw c.in-Feed.is c.feed.ensures.step

pub returns-in-Feed-clause-course : goal.returns-in-Feed-clause-course
returns-in-Feed-clause-course g c = rw c.in-Feed.is c.feed.ensures.course

pub returns-in-Store-clause-step : goal.returns-in-Store-clause-step
returns-in-Store-clause-step g c = rw c.in-Store.is c.store.ensures.step

pub returns-in-Store-clause-course : goal.returns-in-Store-clause-course
returns-in-Store-clause-course g c = rw c.in-Store.is c.store.ensures.course

pub returns-in-Gone-clause-step : goal.returns-in-Gone-clause-step
returns-in-Gone-clause-step g c = rw c.in-Gone.is c.gone.ensures.step

pub returns-in-Gone-clause-course : goal.returns-in-Gone-clause-course
returns-in-Gone-clause-course g c = rw c.in-Gone.is c.gone.ensures.course

pub returns-in-Sent-clause-step : goal.returns-in-Sent-clause-step
returns-in-Sent-clause-step g c = rw c.in-Sent.is c.sent.ensures.step

pub returns-in-Sent-clause-course : goal.returns-in-Sent-clause-course
returns-in-Sent-clause-course g c = rw c.in-Sent.is c.sent.ensures.course

pub returns-in-Close-clause-step : goal.returns-in-Close-clause-step
returns-in-Close-clause-step g c = rw c.in-Close.is c.close.ensures.step

pub returns-in-Close-clause-course : goal.returns-in-Close-clause-course
returns-in-Close-clause-course g c = rw c.in-Close.is c.close.ensures.course

pub returns-in-Motion-clause-step : goal.returns-in-Motion-clause-step
returns-in-Motion-clause-step g c =
    let x : FitsSigned w32 c.in-Motion.x = search rules in
    let y : FitsSigned w32 c.in-Motion.y = search rules in
    rw c.in-Motion.is
    (motion-steps c.in-Motion.time c.in-Motion.x c.in-Motion.y _ _ (to_z-of_z w32 c.in-Motion.x x) (to_z-of_z w32 c.in-Motion.y y) _ _ c.motion.ensures.step)

pub returns-in-Motion-clause-course : goal.returns-in-Motion-clause-course
returns-in-Motion-clause-course g c =
    let x : FitsSigned w32 c.in-Motion.x = search rules in
    let y : FitsSigned w32 c.in-Motion.y = search rules in
    rw c.in-Motion.is
    (motion-courses c.in-Motion.time c.in-Motion.x c.in-Motion.y _ _ (to_z-of_z w32 c.in-Motion.x x) (to_z-of_z w32 c.in-Motion.y y) _ _ c.motion.ensures.course)

pub returns-in-Button-clause-step : goal.returns-in-Button-clause-step
returns-in-Button-clause-step g c = rw c.in-Button.is c.button.ensures.step

pub returns-in-Button-clause-course : goal.returns-in-Button-clause-course
returns-in-Button-clause-course g c = rw c.in-Button.is c.button.ensures.course
