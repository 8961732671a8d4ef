use Rattle.std.proofs.Common.{◌≡◌, ◌∙◌, ◌<◌, ◌++◌, ℕ, List, refl, ap, sym, subst, arith, None, Some}
use Rattle.wl_session.specs.Damage.{has}
use Rattle.wl_session.specs.Run.{AreRuns}
use Rattle.wl_session.specs.declared.shots.Run.{Run}
use Rattle.wl_viewer.specs.Telling.{update_of, update_text}
use Rattle.wl_viewer.proofs.Counted.{none-counted, told-from}
use Rattle.wl_viewer.proofs.viewer.Viewer.update.Goals as goal

pub returns-in_ok-append_update-clause-told : goal.returns-in_ok-append_update-clause-told
returns-in_ok-append_update-clause-told g c ok =
    let untold = c.self.inside.untold in
    let runs = c.in_ok-runs.runs.items in
    told-from c.args.frame.now c.args.time _ c.args.self.now _ c.self.view_is (
      Some (update_of c.args.frame.now c.args.time runs),
      record {
        tells = (
          record { runs = runs; are = subst (λ (h : ℕ). AreRuns untold.width h (has untold) runs) (sym c.self.invariant.1) c.in_ok-runs.ensures; pieces = refl },
          refl,
          subst (λ (n : ℕ). 0 < n) c.count.ensures c.if-count-gt0.true,
        );
        out =
            c.in_ok-append_update.ensures
            ∙ (ap (λ (l : List ℕ). l ++ update_text (update_of c.args.frame.now c.args.time c.deref.result.now)) c.clear.ensures.items
            ∙ ap (λ (rs : List Run). update_text (update_of c.args.frame.now c.args.time rs)) c.deref.ensures.value);
        told = λ x y w h. c.clear-then-count-gt0.ensures.empty x y;
        width = c.clear-then-count-gt0.ensures.width;
        height = c.clear-then-count-gt0.ensures.height;
        heard = refl;
        is_over = refl;
      },
    )

pub returns-else-count-gt0-clause-told : goal.returns-else-count-gt0-clause-told
returns-else-count-gt0-clause-told g c ok =
    let untold = c.self.inside.untold in
    let zero : c.count.result ≡ 0 = omega (arith, c.if-count-gt0.false) in
    let none = sym c.count.ensures ∙ zero in
    told-from c.args.frame.now c.args.time _ c.args.self.now _ c.self.view_is (
      None,
      record {
        tells = none;
        out = c.clear.ensures.items;
        told = λ x y w h. none-counted untold.width untold.height (has untold) x y none w h;
        width = refl;
        height = refl;
        heard = refl;
        is_over = refl;
      },
    )
