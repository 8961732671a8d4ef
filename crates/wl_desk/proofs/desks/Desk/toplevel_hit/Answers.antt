use mir.Val.{SFits}
use Rattle.std.proofs.Common.{ap, rules, sym, w32, ◌∙◌}
use Rattle.std.proofs.lemmas.Int.{to_z-of_z}
use Rattle.std.specs.Option.{option_map}
use Rattle.wl_scene.specs.Focus.{place_of}
use Rattle.spec_desktop.specs.Stacked.{all_windows}
use Rattle.wl_clients.specs.Agreement.{numbers_in}
use Rattle.wl_desk.specs.Midway.{unpointed_mid}
use Rattle.wl_desk.proofs.Restacking.{no-toplevel, toplevel-has, toplevel-named}
use Rattle.wl_desk.proofs.desks.Desk.toplevel_hit.Goals as goal

pub returns-in_err-window-clause-hit : goal.returns-in_err-window-clause-hit
returns-in_err-window-clause-hit g c = λ m telling.
    let it = rw (← c.self.view_is) at telling in
    let h = c.hit.ensures (unpointed_mid m) it.kept in
    let px : SFits w32 c.in_ok-place.place.x = search rules in
    let py : SFits w32 c.in_ok-place.place.y = search rules in
    let across = to_z-of_z w32 c.in_ok-place.place.x px in
    let down = to_z-of_z w32 c.in_ok-place.place.y py in
    rw c.from_residual-in_err-window.ensures (no-toplevel (numbers_in c.self.inside.clients.desk.clients) _ _ c.in_ok-place.place m.desktop.pointer.place (all_windows m.desktop)
    across down (sym (ap (option_map place_of) c.in_ok-place.was) ∙ c.place.ensures ∙ it.place) (rw c.in_err-window.was at h))

pub returns-in_err-surface-clause-hit : goal.returns-in_err-surface-clause-hit
returns-in_err-surface-clause-hit g c = λ m telling.
    let it = rw (← c.self.view_is) at telling in
    let h = c.hit.ensures (unpointed_mid m) it.kept in
    toplevel-has (numbers_in c.self.inside.clients.desk.clients) c.in_ok-window.window _ (rw c.in_ok-window.was at h) c.in_err-surface.ensures.none

pub returns-clause-hit : goal.returns-clause-hit
returns-clause-hit g c = λ m telling.
    let it = rw (← c.self.view_is) at telling in
    let h = c.hit.ensures (unpointed_mid m) it.kept in
    let px : SFits w32 c.in_ok-place.place.x = search rules in
    let py : SFits w32 c.in_ok-place.place.y = search rules in
    let across = to_z-of_z w32 c.in_ok-place.place.x px in
    let down = to_z-of_z w32 c.in_ok-place.place.y py in
    toplevel-named c.self.inside.clients.desk (unpointed_mid m) _ _ c.in_ok-place.place m.desktop.pointer.place c.in_ok-window.window _ it.kept across down
    (sym (ap (option_map place_of) c.in_ok-place.was) ∙ c.place.ensures ∙ it.place) (rw c.in_ok-window.was at h) c.in_ok-surface.ensures.some
