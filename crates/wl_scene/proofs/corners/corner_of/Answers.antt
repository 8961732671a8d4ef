use Rattle.std.proofs.Common.{◌≡◌, ap₂, ◌∙◌, rules, to_z, of_z, w32}
use Rattle.wl_surface.specs.Linked.{numbered}
use Rattle.wl_scene.specs.Focus.{place_of}
use Rattle.wl_scene.proofs.Geometry.{corner-told}
use Rattle.wl_scene.proofs.corners.corner_of.Goals as goal
use Rattle.spec_desktop.specs.Windows.{moved}
use Rattle.wl_surface.specs.Surfaces.{surface_at}

pub returns-in-Some : goal.returns-in-Some
returns-in-Some g c = λ all stand.
    let current = c.in-Some.current in
    let x : to_z w32 (of_z w32 current.offset.x) ≡ current.offset.x = search rules in
    let y : to_z w32 (of_z w32 current.offset.y) ≡ current.offset.y = search rules in
    c.moved.ensures ∙ ap₂ (moved (place_of c.args.place)) x y
    ∙ corner-told current c.current.result (place_of c.args.place) (surface_at c.args.surface all) (c.current.ensures.stands (numbered all) stand.surfaces) c.in-Some.is
