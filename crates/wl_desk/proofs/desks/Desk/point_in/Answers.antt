use mir.Val.{SFits}
use Rattle.std.proofs.Common.{ap, ap₂, rules, sym, w32, ◌∙◌}
use Rattle.std.proofs.lemmas.Int.{to_z-of_z}
use Rattle.std.specs.Option.{option_map}
use Rattle.wl_scene.specs.Focus.{place_of}
use Rattle.spec_desktop.specs.Pointer.{fixed_from}
use Rattle.wl_desk.proofs.Windows.{point-so}
use Rattle.wl_desk.proofs.desks.Desk.point_in.Goals as goal

pub returns : goal.returns
returns g c = λ m telling.
    let it = rw (← c.self.view_is) at telling in
    let h = c.window_of.ensures m telling in
    let px : SFits w32 c.in_ok-place.place.x = search rules in
    let py : SFits w32 c.in_ok-place.place.y = search rules in
    let wx : SFits w32 c.in_ok-window.field-0.window.x = search rules in
    let wy : SFits w32 c.in_ok-window.field-0.window.y = search rules in
    let rx : SFits w32 c.fixed.result = search rules in
    let ry : SFits w32 c.fixed-2.result = search rules in
    point-so _ c.in_ok-place.place c.in_ok-window.field-0 m.desktop.pointer.place _ _ _ (sym (ap (option_map place_of) c.in_ok-place.was) ∙ c.place.ensures ∙ it.place) (rw c.in_ok-window.was at h)
    (to_z-of_z w32 c.fixed.result rx ∙ c.fixed.ensures ∙ ap₂ fixed_from (to_z-of_z w32 c.in_ok-place.place.x px) (to_z-of_z w32 c.in_ok-window.field-0.window.x wx))
    (to_z-of_z w32 c.fixed-2.result ry ∙ c.fixed-2.ensures ∙ ap₂ fixed_from (to_z-of_z w32 c.in_ok-place.place.y py) (to_z-of_z w32 c.in_ok-window.field-0.window.y wy))
