use Rattle.std.proofs.Common.{◌≡◌, ◌∙◌, ap, ℤ, ◌+ℤ◌, ◌-ℤ◌, rules}
use Rattle.wl_shell.proofs.Places.{placed-as, sized-is}
use Rattle.wl_shell.specs.Placing.{axis_of}
use Rattle.wl_shell.specs.Positioner.{axis_x, axis_y}
use Rattle.wl_shell.proofs.positioner.Positioner.place_sized.Goals as goal

pub returns : goal.returns
returns c =
    let p = c.args.self.now in
    let size = c.args.size in
    let rect = c.args.rect.now in
    let bounds = c.args.bounds.now in
    let at = c.args.parent_at in
    let across : axis_of c.axis_across.result ≡ axis_x p size rect =
    c.axis_across.ensures size.1 ∙ ap (λ (u : ℤ). axis_x p (u, size.1) rect) (search rules) in
    let down : axis_of c.axis_down.result ≡ axis_y p size rect = c.axis_down.ensures size.0 ∙ ap (λ (u : ℤ). axis_y p (size.0, u) rect) (search rules) in
    let x =
    placed-as c.place-x.result _ _ _ _ _ _ _ _ (bounds.x -ℤ at.0) ((bounds.x +ℤ bounds.w) -ℤ at.0) _ _ c.place-x.ensures c.allowed_across.ensures.flip
    c.allowed_across.ensures.slide c.allowed_across.ensures.resize (search rules) (search rules) across in
    let y =
    placed-as c.place-y.result _ _ _ _ _ _ _ _ (bounds.y -ℤ at.1) ((bounds.y +ℤ bounds.h) -ℤ at.1) _ _ c.place-y.ensures c.allowed_down.ensures.flip
    c.allowed_down.ensures.slide c.allowed_down.ensures.resize (search rules) (search rules) down in
    sized-is _ _ _ _ c.place-x.result c.place-y.result _ _ (search rules) (search rules) (search rules) (search rules) x y
