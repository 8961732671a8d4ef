use Rattle.std.proofs.Common.{◌+◌, ◌<◌, arith, rules, w32, FitsSigned}
use Rattle.std.proofs.lemmas.Int.{to_z-of_z}
use Rattle.wl_store.specs.Picture.{surface_width}
use Rattle.wl_paint.specs.Painting.{pixel_of, window_of}
use Rattle.wl_paint.proofs.Layers.{height-fits, hidden_pixel, said_pixel, width-fits}
use Rattle.wl_paint.proofs.layer.hide.Goals as goal

pub is_said_opaque-requires-clause-column : goal.is_said_opaque-requires-clause-column
is_said_opaque-requires-clause-column g c =
    let w = window_of c.args.window.now in
    omega (arith, c.width.ensures, c.in-Some.ensures.2, width-fits w.picture)

pub is_said_opaque-requires-clause-row : goal.is_said_opaque-requires-clause-row
is_said_opaque-requires-clause-row g c =
    let w = window_of c.args.window.now in
    omega (arith, c.height.ensures, c.in-Some-offset_in.ensures.2, height-fits w.picture)

pub returns-then-is_said_opaque : goal.returns-then-is_said_opaque
returns-then-is_said_opaque g c t k h under =
    let w = window_of c.args.window.now in
    let fits_x : FitsSigned w32 c.args.window.now.x = search rules in
    let fits_y : FitsSigned w32 c.args.window.now.y = search rules in
    let inside = simp to_z-of_z at c.in-Some.ensures.0 in
    let is = simp to_z-of_z at c.in-Some.ensures.1 in
    let row = simp to_z-of_z at c.in-Some-offset_in.ensures.0 in
    let down = simp to_z-of_z at c.in-Some-offset_in.ensures.1 in
    let small : c.in-Some.i + k < surface_width w.picture = omega (arith, c.width.ensures, c.width-2.ensures, c.in-Some.ensures.2) in
    said_pixel (pixel_of c.copy_colors.new.run k) w c.args.x c.args.y c.in-Some.i c.in-Some-offset_in.j k under (rw c.width.ensures at inside) is
    (rw c.height.ensures at row) down small (c.is_said_opaque.ensures c.if-is_said_opaque.true k (omega arith)) (c.copy_colors.ensures k h under)

pub returns : goal.returns
returns g c t k h under =
    let w = window_of c.args.window.now in
    let fits_x : FitsSigned w32 c.args.window.now.x = search rules in
    let fits_y : FitsSigned w32 c.args.window.now.y = search rules in
    let inside = simp to_z-of_z at c.in-Some.ensures.0 in
    let is = simp to_z-of_z at c.in-Some.ensures.1 in
    let row = simp to_z-of_z at c.in-Some-offset_in.ensures.0 in
    let down = simp to_z-of_z at c.in-Some-offset_in.ensures.1 in
    let small : c.in-Some.i + k < surface_width w.picture = omega (arith, c.width.ensures, c.width-2.ensures, c.in-Some.ensures.2) in
    hidden_pixel (pixel_of c.copy_opaque.new.run k) _ w c.args.x c.args.y c.in-Some.i c.in-Some-offset_in.j k under (rw c.width.ensures at inside) is
    (rw c.height.ensures at row) down small (c.copy_opaque.ensures t k h under)
