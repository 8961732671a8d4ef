use Rattle.std.proofs.Common.{◌∙◌, refl, sym, ap}
use Rattle.wl_client.specs.declared.outputs.Output.{Output}
use Rattle.wl_paint.specs.Damage.{Damaged, has}
use Rattle.wl_desk.specs.Agreeing.{Agrees}
use Rattle.spec_desktop.specs.Desktop.{Desktop}
use Rattle.wl_desk.specs.View.{DeskView}
use Rattle.wl_session.specs.Run.{IsNextFrame}
use Rattle.wl_session.specs.View.{SessionView}
use Rattle.spec_desktop.specs.Act.{Tick}
use Rattle.spec_desktop.specs.declared.answers.Done.TheVariants as gave
use Rattle.wl_session.specs.Course.{TakesCourse}
use Rattle.wl_desk.proofs.Calls.{large-on}
use Rattle.wl_session.proofs.Courses.{led-happens, tick-course}
use Rattle.wl_session.proofs.sessions.Session.tick.Goals as goal

pub invariant_of-self : goal.invariant_of-self
invariant_of-self g c =
    let same = sym (c.settle_all.ensures.output ∙ c.end_each.ensures.output ∙ c.frames.ensures.output ∙ ap (λ (v : DeskView). v.kept.output) c.take_damage.ensures.desk) in (
      c.paint.ensures.width ∙ (c.self.invariant.0 ∙ ap (λ (o : Output). o.width) same),
      c.paint.ensures.height ∙ (c.self.invariant.1 ∙ ap (λ (o : Output). o.height) same),
      c.take_damage.ensures.width ∙ ap (λ (o : Output). o.width) same,
      c.take_damage.ensures.height ∙ ap (λ (o : Output). o.height) same,
    )

pub returns : goal.returns
returns g c =
    let next : (d : Desktop) → Agrees c.args.self.now.desk d → IsNextFrame d c.args.self.now.frame c.frame.result.pixels.now (has c.frame.result.damage.now) =
    rw (← c.self.view_is, c.frame.ensures.pixels, c.frame.ensures.damage) (λ d a. record {
      large = record { width = c.paint.ensures.width; height = c.paint.ensures.height; background = c.paint.ensures.background };
      painted = λ x y w h here opaque. c.paint.ensures.painted d a x y w h (sym (ap (λ (m : Damaged). has m x y) c.take_damage.ensures.taken) ∙ here) opaque;
      kept = λ x y w h none. c.paint.ensures.kept x y w h (sym (ap (λ (m : Damaged). has m x y) c.take_damage.ensures.taken) ∙ none);
    }) in
    let quietly = c.frames.ensures.leads _ _ c.end_each.ensures.ends c.settle_all.ensures.settles in
    let leads = rw c.take_damage.ensures.desk at quietly in
    let course : TakesCourse (Tick c.args.time) gave.Tick c.args.self.now (record {
      desk = c.settle_all.new.desk.desk;
      damage = c.settle_all.new.desk.damage;
      frame = c.paint.new.framebuffer;
      painted = c.take_damage.new.painted;
    }) =
    rw (← c.self.view_is) (tick-course c.args.time _ _ c.take_damage.new.self.damage c.take_damage.ensures.none c.take_damage.ensures.sides (large-on _ _ _ (large-on _ _ _ c.frames.ensures.sides c.end_each.ensures.sides) c.settle_all.ensures.sides) leads
    (λ d a. record {
      large = record { width = c.paint.ensures.width; height = c.paint.ensures.height; background = c.paint.ensures.background };
      painted = λ x y w h here opaque. c.paint.ensures.painted d a x y w h here opaque;
      kept = λ x y w h none. c.paint.ensures.kept x y w h none;
    })) in (
      (
        refl,
        (λ s. tt),
        (
          (λ d a.
              let led = (quietly d (rw c.take_damage.ensures.desk (rw (← c.self.view_is) at a))).0 in
              (led.desktop, led-happens (Tick c.args.time) gave.Tick (Agrees c.settle_all.new.desk.desk) c.take_damage.new.self.damage c.settle_all.new.desk.damage d led, led.agrees)),
          sym c.frame.ensures.pixels,
          course,
        ),
      ),
      record {
        after = tt;
        frame = next;
        large = rw (← c.self.view_is, c.frame.ensures.pixels) (record { width = c.paint.ensures.width; height = c.paint.ensures.height; background = c.paint.ensures.background });
        damage = c.frame.ensures.damage ∙ (c.take_damage.ensures.taken ∙ ap (λ (v : SessionView). v.damage) c.self.view_is);
        time = c.frame.ensures.time;
      },
    )
