use Rattle.std.proofs.Common.{ap, arith}
use Rattle.wl_store.specs.Picture.{Shown}
use Rattle.wl_store.proofs.Points.{column-within, row-within}
use Rattle.wl_store.proofs.picture.Picture.point.Goals as goal

pub returns-clause-column : goal.returns-clause-column
returns-clause-column c =
    column-within c.args.self.now c.self.inside.transform c.self.inside.scale.number c.buffer_point-x.result.0 c.sides-width.result
    (ap (λ (p : Shown). p.transform) c.self.view_is) (ap (λ (p : Shown). p.scale) c.self.view_is) c.self.invariant.1 c.sides-width.ensures
    c.buffer_point-x.ensures.column

pub returns-clause-row : goal.returns-clause-row
returns-clause-row c =
    row-within c.args.self.now c.self.inside.transform c.self.inside.scale.number c.buffer_point-x.result.1 c.sides-width.result
    (ap (λ (p : Shown). p.transform) c.self.view_is) (ap (λ (p : Shown). p.scale) c.self.view_is) c.self.invariant.1 c.sides-width.ensures
    c.buffer_point-x.ensures.row

pub overflow_mul-result : goal.overflow_mul-result
overflow_mul-result c =
    let l = c.args.self.now.layout in
    let within = column-within c.args.self.now c.self.inside.transform c.self.inside.scale.number c.buffer_point-x.result.0 c.sides-width.result
    (ap (λ (p : Shown). p.transform) c.self.view_is) (ap (λ (p : Shown). p.scale) c.self.view_is) c.self.invariant.1 c.sides-width.ensures
    c.buffer_point-x.ensures.column in
    omega (arith, within, l.wide_rows, l.stride_fits)

pub overflow_mul-result-2 : goal.overflow_mul-result-2
overflow_mul-result-2 c =
    let l = c.args.self.now.layout in
    let within = row-within c.args.self.now c.self.inside.transform c.self.inside.scale.number c.buffer_point-x.result.1 c.sides-width.result
    (ap (λ (p : Shown). p.transform) c.self.view_is) (ap (λ (p : Shown). p.scale) c.self.view_is) c.self.invariant.1 c.sides-width.ensures
    c.buffer_point-x.ensures.row in
    omega (arith, within, l.height_fits)
