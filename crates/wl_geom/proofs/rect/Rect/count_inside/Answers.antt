use Rattle.std.proofs.Common.{◌+ℤ◌, ◌∙◌, sym, w32, pos, rules, FitsSigned}
use Rattle.std.proofs.lemmas.Int.{to_z-of_z}
use Rattle.wl_geom.specs.Rect.{in_span}
use Rattle.wl_geom.proofs.Held.{both, not-left}
use Rattle.wl_geom.proofs.rect.Rect.count_inside.Goals as goal

pub returns-clause-inside : goal.returns-clause-inside
returns-clause-inside c i l =
    let rect = c.args.self.now in
    let x = to_z-of_z w32 c.args.x c.ranges.x in
    let y = to_z-of_z w32 c.args.y c.ranges.y in
    let x_fits : FitsSigned w32 rect.x = search rules in
    let w_fits : FitsSigned w32 rect.w = search rules in
    let y_fits : FitsSigned w32 rect.y = search rules in
    let h_fits : FitsSigned w32 rect.h = search rules in
    let is = simp (y, to_z-of_z) at c.is_in_span.ensures in
    let inside = simp (x, to_z-of_z) at (c.count_in_span.ensures.inside i l) in
    both (in_span rect.x rect.w (c.args.x +ℤ pos i)) (in_span rect.y rect.h c.args.y) inside (sym is ∙ c.if-not-is_in_span.false)

pub returns-clause-stops : goal.returns-clause-stops
returns-clause-stops c none =
    let rect = c.args.self.now in
    let x = to_z-of_z w32 c.args.x c.ranges.x in
    let x_fits : FitsSigned w32 rect.x = search rules in
    let w_fits : FitsSigned w32 rect.w = search rules in
    let stops = simp (x, to_z-of_z) at (c.count_in_span.ensures.stops none) in
    not-left (in_span rect.x rect.w c.args.x) (in_span rect.y rect.h c.args.y) stops
