use Rattle.std.proofs.Common.{w32, FitsSigned, rules}
use Rattle.std.proofs.lemmas.Int.{to_z-of_z}
use Rattle.wl_geom.specs.Rect.{in_span}
use Rattle.wl_geom.proofs.Spans.{apart_in_columns, apart_in_rows}
use Rattle.wl_geom.proofs.rect.Rect.may_meet.Goals as goal

pub returns-then-may_meet : goal.returns-then-may_meet
returns-then-may_meet c unmet x y =
    let this = c.args.self.now in
    let other = c.args.other.now in
    let y_fits : FitsSigned w32 this.y = search rules in
    let h_fits : FitsSigned w32 this.h = search rules in
    let other_y_fits : FitsSigned w32 other.y = search rules in
    let other_h_fits : FitsSigned w32 other.h = search rules in
    let apart = simp to_z-of_z at (c.may_meet-then-may_meet.ensures unmet y) in
    apart_in_rows (in_span this.x this.w x) (in_span this.y this.h y) (in_span other.x other.w x) (in_span other.y other.h y) apart

pub returns-else-may_meet : goal.returns-else-may_meet
returns-else-may_meet c unmet x y =
    let this = c.args.self.now in
    let other = c.args.other.now in
    let x_fits : FitsSigned w32 this.x = search rules in
    let w_fits : FitsSigned w32 this.w = search rules in
    let other_x_fits : FitsSigned w32 other.x = search rules in
    let other_w_fits : FitsSigned w32 other.w = search rules in
    let apart = simp to_z-of_z at (c.may_meet.ensures unmet x) in
    apart_in_columns (in_span this.x this.w x) (in_span this.y this.h y) (in_span other.x other.w x) (in_span other.y other.h y) apart
