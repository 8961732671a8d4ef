use Rattle.std.proofs.Common.{◌≡◌, ℕ, ◌+◌, pos, subst, arith}
use Rattle.wl_paint.specs.Damage.{has}
use Rattle.wl_paint.specs.Painting.{IsPaintedIn, is_in, pixel_of}
use Rattle.wl_paint.specs.Window.{AreOpaqueAsSaid, scratch}
use Rattle.wl_paint.proofs.PaintedRows.{painted-no_rows, painted-rows}
use Rattle.wl_paint.proofs.painting.paint_columns.Goals as goal

pub loop-y-init : goal.loop-y-init
loop-y-init g c = painted-no_rows _ _ _ _ _ c.args.columns c.args.rows.first

pub loop-y-preserved : goal.loop-y-preserved
loop-y-preserved g c =
    painted-rows _ _ _ _ _ _ _ c.args.columns c.args.rows.first c.loop-y.y (c.loop-y.y + 1) c.loop-y.auto.y (omega arith) c.loop-y.invariant c.paint_row.ensures

pub returns : goal.returns
returns g c =
    let done : c.loop-y.y ≡ c.args.rows.end = omega (arith, c.loop-y.auto.y-end c.requires.rows) in
    subst (λ (end : ℕ). IsPaintedIn (pixel_of c.args.pixels.now) (pixel_of c.loop-y.pixels)
    (λ x y. AreOpaqueAsSaid (pos x) (pos y) (g.W.Windows.windows c.args.layers.now.windows.now))
    (λ x y. scratch c.args.layers.now.background (g.W.Windows.windows c.args.layers.now.windows.now) (pos x) (pos y)) (has c.args.damage.now)
    c.args.damage.now.width (is_in c.args.columns (record { first = c.args.rows.first; end = end }))) done c.loop-y.invariant
