use mir.Val.{SFits}
use Rattle.std.proofs.Common.{ap, refl, rules, sym, w32, ◌∙◌}
use Rattle.std.proofs.lemmas.Int.{to_z-of_z}
use Rattle.std.specs.Option.{option_map}
use Rattle.wl_scene.specs.Focus.{place_of, target_of}
use Rattle.spec_desktop.specs.Stacked.{all_windows}
use Rattle.wl_clients.specs.Agreement.{numbers_in}
use Rattle.wl_clients.proofs.Midway.{mid_is_numbered_once}
use Rattle.wl_desk.specs.Midway.{unpointed_mid}
use Rattle.wl_desk.proofs.Windows.{hit-has, named-hit, none-hit}
use Rattle.wl_desk.proofs.desks.Desk.hit.Goals as goal

pub returns-in_err-window : goal.returns-in_err-window
returns-in_err-window g c = λ m telling.
    let it = rw (← c.self.view_is) at telling in
    let h = c.hit.ensures (unpointed_mid m) it.kept in
    let px : SFits w32 c.in_ok-place.place.x = search rules in
    let py : SFits w32 c.in_ok-place.place.y = search rules in
    let across = to_z-of_z w32 c.in_ok-place.place.x px in
    let down = to_z-of_z w32 c.in_ok-place.place.y py in
    rw c.from_residual-in_err-window.ensures (none-hit (numbers_in c.self.inside.clients.desk.clients) _ _ c.in_ok-place.place m.desktop.pointer.place (all_windows m.desktop)
    across down (sym (ap (option_map place_of) c.in_ok-place.was) ∙ c.place.ensures ∙ it.place) (rw c.in_err-window.was at h))

pub returns-then-is_of : goal.returns-then-is_of
returns-then-is_of g c = λ m telling.
    let it = rw (← c.self.view_is) at telling in
    let h = c.hit.ensures (unpointed_mid m) it.kept in
    let px : SFits w32 c.in_ok-place.place.x = search rules in
    let py : SFits w32 c.in_ok-place.place.y = search rules in
    let across = to_z-of_z w32 c.in_ok-place.place.x px in
    let down = to_z-of_z w32 c.in_ok-place.place.y py in
    let of = c.is_of.ensures c.if-is_of.true in
    let own = rw (← c.self.view_is) at of in
    named-hit (numbers_in c.self.inside.clients.desk.clients) (mid_is_numbered_once c.self.inside.clients.desk (unpointed_mid m) it.kept) _ _ c.in_ok-place.place m.desktop.pointer.place
    (all_windows m.desktop) c.in_ok-window.window (target_of c.in-Some.focus) across down
    (sym (ap (option_map place_of) c.in_ok-place.was) ∙ c.place.ensures ∙ it.place) (rw c.in_ok-window.was at h) own.0 own.1

pub returns-in_err-surface : goal.returns-in_err-surface
returns-in_err-surface g c = λ m telling.
    let it = rw (← c.self.view_is) at telling in
    let h = c.hit.ensures (unpointed_mid m) it.kept in
    hit-has (numbers_in c.self.inside.clients.desk.clients) c.in_ok-window.window _ (rw c.in_ok-window.was at h) c.in_err-surface.ensures.none

pub returns : goal.returns
returns g c = λ m telling.
    let it = rw (← c.self.view_is) at telling in
    let h = c.hit.ensures (unpointed_mid m) it.kept in
    let px : SFits w32 c.in_ok-place.place.x = search rules in
    let py : SFits w32 c.in_ok-place.place.y = search rules in
    let across = to_z-of_z w32 c.in_ok-place.place.x px in
    let down = to_z-of_z w32 c.in_ok-place.place.y py in
    named-hit (numbers_in c.self.inside.clients.desk.clients) (mid_is_numbered_once c.self.inside.clients.desk (unpointed_mid m) it.kept) _ _ c.in_ok-place.place m.desktop.pointer.place
    (all_windows m.desktop) c.in_ok-window.window _ across down (sym (ap (option_map place_of) c.in_ok-place.was) ∙ c.place.ensures ∙ it.place) (rw c.in_ok-window.was at h) refl
    c.in_ok-surface.ensures.some
