use Rattle.std.proofs.Common.{◌+◌, ◌/◌, pos, length, arith, rules, w32, FitsSigned}
use Rattle.std.proofs.lemmas.Int.{to_z-of_z}
use Rattle.wl_geom.specs.Rect.{in_span}
use Rattle.wl_store.specs.Picture.{surface_width}
use Rattle.wl_blend.specs.Blend.{color_of}
use Rattle.wl_paint.specs.Painting.{window_of}
use Rattle.wl_paint.proofs.Clips.{none_in_part, part_fits}
use Rattle.wl_paint.proofs.Layers.{kept_pixel, laid_pixel, over-above, over-beside}
use Rattle.wl_paint.proofs.layer.lay_window.Goals as goal

pub returns-in_default-offset_in : goal.returns-in_default-offset_in
returns-in_default-offset_in g c i h =
    let w = window_of c.args.window.now in
    let part = c.part_in-first in
    let fits : FitsSigned w32 c.args.window.now.x = search rules in
    let first = simp to_z-of_z at c.in_default-offset_in.ensures in
    let none = none_in_part (λ k. in_span w.x (pos (surface_width w.picture)) (pos (c.args.x + k))) part.result.0 part.result.1
    (length c.args.run.now / 4) (λ k l. (let e = simp to_z-of_z at (part.ensures.same k l) in rw c.width.ensures at e)) part.ensures.within (rw c.width-2.ensures at first) i (omega arith) in
    kept_pixel c.args.run.now i _ (c.requires.fourths i h) (over-beside (pos (c.args.x + i)) (pos c.args.y) (color_of c.args.run.now i) w none)

pub lay_part-requires-clause-columns : goal.lay_part-requires-clause-columns
lay_part-requires-clause-columns g c =
    let w = window_of c.args.window.now in
    let part = c.part_in-first in
    let fits : FitsSigned w32 c.args.window.now.x = search rules in
    let inside = simp to_z-of_z at c.in-Some-offset_in.ensures.0 in
    let is = simp to_z-of_z at c.in-Some-offset_in.ensures.1 in
    part_fits w.x (surface_width w.picture) c.args.x c.in-Some-offset_in.i part.result.0 part.result.1 (length c.args.run.now / 4)
    (λ k l. (let e = simp to_z-of_z at (part.ensures.same k l) in rw c.width.ensures at e)) part.ensures.order part.ensures.within is (rw c.width-2.ensures at inside)
    (rw c.width-2.ensures at c.in-Some-offset_in.ensures.2)

pub returns : goal.returns
returns g c i h =
    let w = window_of c.args.window.now in
    let part = c.part_in-first in
    let fits_x : FitsSigned w32 c.args.window.now.x = search rules in
    let fits_y : FitsSigned w32 c.args.window.now.y = search rules in
    let inside = simp to_z-of_z at c.in-Some-offset_in.ensures.0 in
    let is = simp to_z-of_z at c.in-Some-offset_in.ensures.1 in
    let row = simp to_z-of_z at c.in-Some.ensures.0 in
    let down = simp to_z-of_z at c.in-Some.ensures.1 in
    laid_pixel c.args.run.now c.lay_part.new.run w c.args.x c.args.y part.result.0 part.result.1 (length c.args.run.now / 4) c.in-Some-offset_in.i c.in-Some.j
    (λ k l. (let e = simp to_z-of_z at (part.ensures.same k l) in rw c.width.ensures at e)) part.ensures.order is (rw c.width-2.ensures at inside) (rw c.height.ensures at row) down
    c.lay_part.ensures.inside c.lay_part.ensures.outside i (omega arith)
    (c.requires.fourths i h)

pub returns-in_default : goal.returns-in_default
returns-in_default g c i h =
    let w = window_of c.args.window.now in
    let fits : FitsSigned w32 c.args.window.now.y = search rules in
    let none = simp to_z-of_z at c.in_default.ensures in
    kept_pixel c.args.run.now i _ (c.requires.fourths i h) (over-above (pos (c.args.x + i)) (pos c.args.y) (color_of c.args.run.now i) w (rw c.height.ensures at none))

pub lay_part-requires-clause-within : goal.lay_part-requires-clause-within
lay_part-requires-clause-within g c = omega (arith, c.part_in-first.ensures.order, c.part_in-first.ensures.within)

pub lay_part-requires-clause-short : goal.lay_part-requires-clause-short
lay_part-requires-clause-short g c = omega (arith, c.part_in-first.ensures.within, c.requires.short)

pub lay_part-requires-clause-row : goal.lay_part-requires-clause-row
lay_part-requires-clause-row g c = rw c.height.ensures at c.in-Some.ensures.2
