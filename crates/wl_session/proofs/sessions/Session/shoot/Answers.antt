use Rattle.std.proofs.Common.{◌≡◌, refl, ap, ◌∙◌, sym}
use Rattle.std.proofs.lemmas.List.{map-append}
use Rattle.wl_paint.specs.Damage.{Damaged, has}
use Rattle.wl_paint.specs.Frame.{Image}
use Rattle.wl_session.specs.Run.{AreRuns, Film}
use Rattle.wl_session.specs.View.{SessionView}
use Rattle.wl_session.proofs.Runs.{tick-leads}
use Rattle.wl_session.proofs.sessions.Session.shoot.Goals as goal

pub returns-clause-ok : goal.returns-clause-ok
returns-clause-ok g c =
    let film : Film = record { time = c.args.time; runs = c.in_ok-runs.runs.items; pixels = c.tick-frame.result.pixels.now.pixels } in
    let wide : c.args.self.now.frame.width ≡ c.damage.result.now.width =
    sym (ap (λ (v : SessionView). v.frame.width) c.self.view_is) ∙ (c.self.invariant.0 ∙ sym c.damage.ensures.wide) in
    let high : c.args.self.now.frame.height ≡ c.height.result = sym (ap (λ (v : SessionView). v.frame.height) c.self.view_is) ∙ sym c.height.ensures in
    let damage : c.args.self.now.damage ≡ c.damage.result.now = sym (ap (λ (v : SessionView). v.damage) c.self.view_is) ∙ sym c.damage.ensures.same in
    let runs : AreRuns c.args.self.now.frame.width c.args.self.now.frame.height (has c.args.self.now.damage) c.in_ok-runs.runs.items =
    rw (wide, high, ap (λ (m : Damaged). has m) damage) c.in_ok-runs.ensures in (
      film,
      rw (c.push_reserved.ensures.items, c.in_ok-reserve.ensures.items, map-append, c.append_reserved.ensures, c.in_ok-pixels.ensures.items, c.pixels-2.ensures.bytes) refl,
      tick-leads c.args.time _ _ film c.tick-frame.follows.holds-at-none.2 refl runs (ap (λ (i : Image). i.pixels) (sym c.tick-frame.follows.holds-at-none.1)),
    )
