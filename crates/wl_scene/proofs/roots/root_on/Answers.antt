use Rattle.std.proofs.Common.{◌≡◌, ap, ap₂, sym, ◌∙◌, rules, to_z, of_z, w32}
use Rattle.wl_scene.proofs.Rooted.{root-told}
use Rattle.wl_scene.proofs.roots.root_on.Goals as goal
use Rattle.wl_scene.specs.Focus.{place_of}
use Rattle.spec_desktop.specs.Popups.{placement_of}

pub returns : goal.returns
returns g c = λ o p r held surface placement geometry told at.
    let place = c.popup_place-place.result in
    let x : to_z w32 (of_z w32 place.x) ≡ place.x = search rules in
    let y : to_z w32 (of_z w32 place.y) ≡ place.y = search rules in
    ap₂ (λ x y. record { surface = c.args.surface; x = x; y = y }) x y
    ∙ root-told o.surfaces p r c.args.surface (place_of c.root_corner-at.result) (place_of place) surface (c.root_corner-at.ensures o r held told at)
    (c.popup_place-place.ensures p (placement ∙ ap placement_of (sym c.placement.ensures)) (geometry ∙ sym c.window_geometry.ensures))
