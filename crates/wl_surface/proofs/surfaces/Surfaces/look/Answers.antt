use Rattle.std.proofs.Common.{ap, ◌∙◌, rules, w32, w64, FitsSigned}
use Rattle.std.proofs.lemmas.Int.{to_z-of_z}
use Rattle.std.specs.Prelude.{ℤ, ◌+ℤ◌}
use Rattle.wl_surface.proofs.Sights.{look-is}
use Rattle.wl_surface.proofs.surfaces.Surfaces.look.Goals as goal

pub returns : goal.returns
returns g c = λ all stand.
    let moved = c.in_ok-current.current.offset in
    let placed = c.place_by-place.ensures all stand in
    let x_fits : FitsSigned w32 c.x_of.result = search rules in
    let across_fits : FitsSigned w32 moved.x = search rules in
    let x_wide : FitsSigned w64 c.sum_of-x.result = search rules in
    let across = rw (to_z-of_z w32 c.x_of.result x_fits, to_z-of_z w32 moved.x across_fits) at c.sum_of-x.ensures in
    let y_fits : FitsSigned w32 c.y_of.result = search rules in
    let down_fits : FitsSigned w32 moved.y = search rules in
    let y_wide : FitsSigned w64 c.sum_of-y.result = search rules in
    let down = rw (to_z-of_z w32 c.y_of.result y_fits, to_z-of_z w32 moved.y down_fits) at c.sum_of-y.ensures in
    look-is _ _ all stand c.args.surface c.current.result c.in_ok-current.current c.in_ok-current.was (c.current.ensures.stands _ stand.surfaces) c.link-link.result c.link-link.ensures
    c.place_by-place.result placed c.is_mapped_at-is_mapped.result (c.is_mapped_at-is_mapped.ensures all stand c.link-link.ensures placed) _ _
    (to_z-of_z w64 c.sum_of-x.result x_wide ∙ (across ∙ ap (λ (a : ℤ). a +ℤ moved.x) c.x_of.ensures))
    (to_z-of_z w64 c.sum_of-y.result y_wide ∙ (down ∙ ap (λ (a : ℤ). a +ℤ moved.y) c.y_of.ensures))
