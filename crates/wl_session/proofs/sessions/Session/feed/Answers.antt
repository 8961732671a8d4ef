use Rattle.std.proofs.Common.{refl}
use Rattle.spec_desktop.specs.declared.answers.Done.TheVariants as gave
use Rattle.wl_desk.specs.Agreeing.{Agrees}
use Rattle.wl_desk.specs.Feeding.{kept_at}
use Rattle.wl_desk.proofs.Calls.{large-on}
use Rattle.wl_session.proofs.Courses.{fed-course, starved-course}
use Rattle.wl_session.proofs.Feeding.{fed-served, fed-starved}
use Rattle.wl_session.proofs.sessions.Session.feed.Goals.{in-Ok, in-Err}
use Rattle.wl_session.proofs.sessions.Session.feed.Goals as goal

pub returns-clause-step : goal.returns-clause-step
returns-clause-step g c = λ d a.
    let was = rw (← c.self.view_is) at a in
    elim c.match-keep.branch [
      | in-Ok w ↦
          let m = w.serve_all.ensures.serves (kept_at c.args.client c.args.piece.now d) (w.in-Ok.ensures.ok d was) in
          let new : Agrees c.match-keep.self.desk m.0.desktop = rw w.self-is m.0.agrees in
          (m.0.desktop, fed-served c.args.client m.0.count c.args.piece.now d m.0.desktop c.status.result m.0.reaches m.1 (c.status.ensures m.0.desktop new), new)
      | in-Err w ↦
          let kept = w.in-Err.ensures.err d was in
          let led = w.starve.ensures.leads _ w.settle_all.ensures.settles d kept.0 kept.1 in
          let new : Agrees c.match-keep.self.desk led.desktop = rw w.self-is led.agrees in
          (led.desktop, fed-starved c.args.client c.args.piece.now d led.path led.desktop c.status.result led.leads (c.status.ensures led.desktop new), new)
    ]

pub returns-clause-course : goal.returns-clause-course
returns-clause-course g c = λ d a.
    let was = rw (← c.self.view_is) at a in
    elim c.match-keep.branch [
      | in-Ok w ↦
          let kept = w.in-Ok.ensures.ok d was in
          let m = w.serve_all.ensures.serves (kept_at c.args.client c.args.piece.now d) kept in
          let new : Agrees c.match-keep.self.desk m.0.desktop = rw w.self-is m.0.agrees in
          let happens = fed-served c.args.client m.0.count c.args.piece.now d m.0.desktop c.status.result m.0.reaches m.1 (c.status.ensures m.0.desktop new) in
          rw w.self-is (rw (← c.self.view_is) (fed-course c.args.client c.args.piece.now (gave.Feed c.status.result) _ _ _ d refl w.in-Ok.ensures.damage was m.0 happens kept))
      | in-Err w ↦
          let kept = w.in-Err.ensures.err d was in
          let led = w.starve.ensures.leads _ w.settle_all.ensures.settles d kept.0 kept.1 in
          let new : Agrees c.match-keep.self.desk led.desktop = rw w.self-is led.agrees in
          let happens = fed-starved c.args.client c.args.piece.now d led.path led.desktop c.status.result led.leads (c.status.ensures led.desktop new) in
          rw w.self-is (rw (← c.self.view_is) (starved-course c.args.client c.args.piece.now (gave.Feed c.status.result) _ _ _ d w.in-Err.ensures.damage refl (large-on _ _ _ w.starve.ensures.sides w.settle_all.ensures.sides) was led happens))
    ]
