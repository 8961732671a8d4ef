use Rattle.std.proofs.Common.{◌≡◌, ◌∙◌, ◌+ℤ◌, ap₂, rules, to_z, of_z, w32}
use Rattle.wl_surface.specs.Linked.{numbered}
use Rattle.wl_surface.specs.State.{within_bounds}
use Rattle.wl_surface.specs.Surfaces.{surface_at}
use Rattle.wl_scene.specs.TreeWindows.{place_beside}
use Rattle.wl_scene.proofs.WindowsShown.{window-shown}
use Rattle.wl_scene.proofs.tree_window.window_of.Goals as goal

pub returns-in-Some : goal.returns-in-Some
returns-in-Some g c = λ all stand.
    let corner = c.args.spot.now.corner in
    let position = c.args.spot.now.position in
    let offset = c.in_ok-current.current.offset in
    let corner_x : to_z w32 (of_z w32 corner.x) ≡ corner.x = search rules in
    let corner_y : to_z w32 (of_z w32 corner.y) ≡ corner.y = search rules in
    let position_x : to_z w32 (of_z w32 position.x) ≡ position.x = search rules in
    let position_y : to_z w32 (of_z w32 position.y) ≡ position.y = search rules in
    let offset_x : to_z w32 (of_z w32 offset.x) ≡ offset.x = search rules in
    let offset_y : to_z w32 (of_z w32 offset.y) ≡ offset.y = search rules in
    let left : to_z w32 (of_z w32 c.held_sum-x.result) ≡ c.held_sum-x.result = search rules in
    let top : to_z w32 (of_z w32 c.held_sum-y.result) ≡ c.held_sum-y.result = search rules in
    window-shown c.in_ok-current.current c.current.result c.in-Some.field-0 c.args.spot.now.root c.args.surface (place_beside c.args.spot.now)
    (to_z w32 (of_z w32 c.held_sum-x.result)) (to_z w32 (of_z w32 c.held_sum-y.result)) (surface_at c.args.surface all)
    (c.current.ensures.stands (numbered all) stand.surfaces) c.in_ok-current.was c.in-Some.is
    (left ∙ (c.held_sum-x.ensures ∙ ap₂ (λ z o. within_bounds (z +ℤ o)) (ap₂ (λ a b. a +ℤ b) corner_x position_x) offset_x))
    (top ∙ (c.held_sum-y.ensures ∙ ap₂ (λ z o. within_bounds (z +ℤ o)) (ap₂ (λ a b. a +ℤ b) corner_y position_y) offset_y))
