use Rattle.std.proofs.Common.{w32, FitsSigned, rules, arith}
use Rattle.std.proofs.lemmas.Int.{ints, to_z-of_z}
use Rattle.wl_geom.specs.Rect.{in_span, is_coordinate}
use Rattle.wl_geom.proofs.Spans.{in_span-clipped, both_clipped}
use Rattle.wl_geom.proofs.rect.Rect.clipped.Goals as goal

pub returns-clause-points : goal.returns-clause-points
returns-clause-points c x y =
    let rect = c.args.self.now in
    let x_fits : FitsSigned w32 rect.x = search rules in
    let y_fits : FitsSigned w32 rect.y = search rules in
    let w_fits : FitsSigned w32 rect.w = search rules in
    let h_fits : FitsSigned w32 rect.h = search rules in
    let left_fits : FitsSigned w32 c.len_before-w.result = search rules in
    let top_fits : FitsSigned w32 c.len_before-h.result = search rules in
    let columns = in_span-clipped rect.x rect.w c.len_before-w.result x (omega (arith, ints)) (simp to_z-of_z at (c.len_before-w.ensures.points x)) in
    let rows = in_span-clipped rect.y rect.h c.len_before-h.result y (omega (arith, ints)) (simp to_z-of_z at (c.len_before-h.ensures.points y)) in
    simp (to_z-of_z, columns, rows) (both_clipped (is_coordinate x) (is_coordinate y) (in_span rect.x rect.w x) (in_span rect.y rect.h y))

pub returns-clause-ends : goal.returns-clause-ends
returns-clause-ends c =
    let fx : FitsSigned w32 c.args.self.now.x = search rules in
    let fy : FitsSigned w32 c.args.self.now.y = search rules in
    let w = c.len_before-w.ensures.before (omega (arith, ints)) in
    let h = c.len_before-h.ensures.before (omega (arith, ints)) in
    record { right = omega (arith, ints); bottom = omega (arith, ints) }
