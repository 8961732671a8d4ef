use Rattle.std.proofs.Common.{◌≡◌, Some, None, ap, map, sym, ◌∙◌}
use Rattle.wl_scene.specs.Roots.{told_root}
use Rattle.wl_scene.proofs.Rooted.{mapped-kept, popup-kept, stacked-as, stacked-unmapped}
use Rattle.wl_scene.proofs.roots.shown_root.Goals as goal
use Rattle.spec_desktop.specs.Popups.{stacked_popup}

pub returns-in_default : goal.returns-in_default
returns-in_default g c = λ o p rs held only here at same.
    let popup = popup-kept c.args.owned.now.surfaces.states c.args.owned.now.surfaces.family c.args.owned.now.shell o held c.args.surface p only c.args.xdg_surface.now here in
    absurd (let clash : None ≡ Some p.popup = c.in_default.ensures ∙ popup in cc)

pub returns-then-shows_popup : goal.returns-then-shows_popup
returns-then-shows_popup g c = λ o p rs held only here at same.
    c.popup_root.ensures o (stacked_popup o p) rs held
    (stacked-as c.args.owned.now.surfaces.states c.args.owned.now.surfaces.family c.args.owned.now.shell o held c.args.surface p only c.args.xdg_surface.now here c.in-Some.popup.now
    (sym c.in-Some.ensures) (sym c.shows_popup.ensures ∙ c.if-shows_popup.true)) at same

pub returns : goal.returns
returns g c = λ o p rs held only here at same.
    let hidden = sym (mapped-kept c.args.owned.now.surfaces.states c.args.owned.now.surfaces.family c.args.owned.now.shell o held c.args.surface p only c.args.xdg_surface.now here)
    ∙ sym c.shows_popup.ensures ∙ c.if-shows_popup.false in
    sym (ap (map told_root) (stacked-unmapped o.surfaces (stacked_popup o p) hidden rs))
