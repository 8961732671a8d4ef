use Rattle.std.proofs.Common.{◌≡◌, ap₂, ◌∙◌, rules, to_z, of_z, w32}
use Rattle.wl_scene.proofs.Rooted.{root-at}
use Rattle.wl_scene.proofs.roots.root_corner.Goals as goal
use Rattle.wl_scene.specs.Focus.{place_of}
use Rattle.wl_scene.specs.Roots.{corner_or}
use Rattle.spec_desktop.specs.Windows.{geometry_corner}
use Rattle.wl_surface.specs.Surfaces.{history_in}

pub returns : goal.returns
returns g c = λ o r held told at.
    let root = c.args.root.now in
    let geometry = c.geometry_of-geometry.result in
    let x : to_z w32 (of_z w32 root.x) ≡ root.x = search rules in
    let y : to_z w32 (of_z w32 root.y) ≡ root.y = search rules in
    root-at o.surfaces r root (place_of c.geometry_at.result) c.args.owned.now.shell geometry told at c.geometry_of-geometry.ensures
    (c.geometry_at.ensures o.surfaces held.surfaces
    ∙ ap₂ (λ x y. geometry_corner (corner_or (record { x = x; y = y }) (history_in root.surface o.surfaces)) geometry) x y)
