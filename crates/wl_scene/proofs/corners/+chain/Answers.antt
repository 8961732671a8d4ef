use Rattle.std.proofs.Common.{◌≡◌, suc, ◌-◌, Option, Some, None, ap, ap₂, sym, ◌∙◌, arith}
use Rattle.wl_scene.specs.Focus.{place_of}
use Rattle.wl_scene.specs.Roots.{corner_or}
use Rattle.wl_scene.proofs.Geometry.{corner-none, corner-popup, corner-step}
use Rattle.wl_scene.proofs.Held.{at-none, at-surface, surface-at}
use Rattle.wl_shell.proofs.ShellsStanding.{both, kept-for}
use Rattle.wl_scene.proofs.corners.+chain.Goals as goal
use Rattle.wl_geom.specs.declared.rect.Rect.{Rect}
use Rattle.spec_desktop.specs.Popups.{corner_at_parent, corner_of_xdg, geometry_corner_at, placement_of, standing_place}
use Rattle.spec_desktop.specs.Windows.{Place, geometry_corner}
use Rattle.wl_surface.specs.Surfaces.{history_in}
use Rattle.wl_shell.specs.Kept.{kept_of}

pub surface_corner-returns-in_default : goal.surface_corner-returns-in_default
surface_corner-returns-in_default g t c = λ o x held there.
    let k = kept-for (kept_of c.args.owned.now.shell) (λ number. history_in number o.surfaces) o.shell held.shell c.args.surface x there in
    absurd (let clash : None ≡ Some k.0 = c.in_default.ensures ∙ k.2 in cc)

pub surface_corner-returns-in_default-popup : goal.surface_corner-returns-in_default-popup
surface_corner-returns-in_default-popup g t c = λ o x held there.
    c.toplevel_corner.ensures o x (λ parent. geometry_corner_at c.args.levels (standing_place c.args.scene.now.standing c.args.client) o parent) held
    (sym c.in-Some.ensures) (sym c.in_default-popup.ensures) there

pub surface_corner-returns : goal.surface_corner-returns
surface_corner-returns g t c = λ o x held there.
    let place = standing_place c.args.scene.now.standing c.args.client in
    let k = c.in-Some.xdg_surface.now in
    let s = both (kept_of c.args.owned.now.shell) (λ number. history_in number o.surfaces) o.shell held.shell c.args.surface k x (sym c.in-Some.ensures) there in
    corner-popup o place (λ parent. geometry_corner_at c.args.levels place o parent) c.args.surface k x s.0 s.1 c.in-Some-popup.popup.now (sym c.in-Some-popup.ensures)
    (place_of c.corner_at_parent-at.result)
    (c.corner_at_parent-at.ensures o held ∙ ap (corner_at_parent (λ parent. geometry_corner_at c.args.levels place o parent)) c.parent.ensures)
    (place_of c.geometry_at.result)
    (λ p placement geometry. c.geometry_at.ensures o.surfaces held.surfaces
    ∙ ap₂ (λ (q : Place) (r : Option Rect). geometry_corner (corner_or q (history_in c.args.surface o.surfaces)) r)
    (c.popup_place-place.ensures p (placement ∙ ap placement_of (sym c.placement.ensures)) (geometry ∙ sym c.window_geometry.ensures)) c.window_geometry-2.ensures)

pub xdg_corner-returns-then-levels-eq0 : goal.xdg_corner-returns-then-levels-eq0
xdg_corner-returns-then-levels-eq0 g t c = λ o held.
    c.origin.ensures ∙ corner-none o (standing_place c.args.scene.now.standing c.args.client) c.args.levels c.args.xdg_surface c.if-levels-eq0.true

pub xdg_corner-returns-in_default : goal.xdg_corner-returns-in_default
xdg_corner-returns-in_default g t c = λ o held.
    let place = standing_place c.args.scene.now.standing c.args.client in
    let less : c.args.levels ≡ suc (c.args.levels - 1) = omega arith in
    let none = at-none (kept_of c.args.owned.now.shell) (λ number. history_in number o.surfaces) o.shell held.shell c.args.xdg_surface
    (surface-at (kept_of c.args.owned.now.shell) (λ number. history_in number o.surfaces) o.shell held.shell c.args.xdg_surface None c.in_default.ensures) in
    c.origin-in_default.ensures
    ∙ sym (corner-step o place c.args.levels (c.args.levels - 1) c.args.xdg_surface less
    ∙ ap (corner_of_xdg (λ parent. geometry_corner_at (c.args.levels - 1) place o parent) place o) none)

pub xdg_corner-returns : goal.xdg_corner-returns
xdg_corner-returns g t c = λ o held.
    let place = standing_place c.args.scene.now.standing c.args.client in
    let less : c.args.levels ≡ suc (c.args.levels - 1) = omega arith in
    let found = at-surface (kept_of c.args.owned.now.shell) (λ number. history_in number o.surfaces) o.shell held.shell c.args.xdg_surface c.in-Some.surface
    (surface-at (kept_of c.args.owned.now.shell) (λ number. history_in number o.surfaces) o.shell held.shell c.args.xdg_surface (Some c.in-Some.surface) c.in-Some.ensures) in
    c.surface_corner.ensures o found.0 held found.2
    ∙ sym (corner-step o place c.args.levels (c.args.levels - 1) c.args.xdg_surface less
    ∙ ap (corner_of_xdg (λ parent. geometry_corner_at (c.args.levels - 1) place o parent) place o) found.1)

pub corner_at_parent-returns-in-None : goal.corner_at_parent-returns-in-None
corner_at_parent-returns-in-None g t c = λ o held.
    let place = standing_place c.args.scene.now.standing c.args.client in
    c.origin.ensures ∙ sym (ap (corner_at_parent (λ parent. geometry_corner_at c.args.levels place o parent)) c.in-None.is)

pub corner_at_parent-returns-in-Some : goal.corner_at_parent-returns-in-Some
corner_at_parent-returns-in-Some g t c = λ o held.
    let place = standing_place c.args.scene.now.standing c.args.client in
    c.xdg_corner.ensures o held ∙ sym (ap (corner_at_parent (λ parent. geometry_corner_at c.args.levels place o parent)) c.in-Some.is)
