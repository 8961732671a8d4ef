use Rattle.std.proofs.Common.{◌≡◌, ℕ, pos, subst, arith}
use Rattle.wl_paint.specs.Damage.{has}
use Rattle.wl_paint.specs.Painting.{IsPaintedIn, is_in, pixel_of}
use Rattle.wl_paint.specs.Window.{AreOpaqueAsSaid, scratch}
use Rattle.wl_paint.proofs.PaintedRows.{painted-columns, painted-no_columns}
use Rattle.wl_paint.proofs.painting.paint_strips.Goals as goal

pub loop-first-init : goal.loop-first-init
loop-first-init g c = (omega arith, painted-no_columns _ _ _ _ _ c.args.rows 0)

pub loop-first-preserved : goal.loop-first-preserved
loop-first-preserved g c = (
  omega (arith, c.min-end.ensures, c.width-width.ensures),
  painted-columns _ _ _ _ _ _ _ c.args.rows 0 c.loop-first.first c.min-end.result (omega arith) (omega (arith, c.min-end.ensures)) c.loop-first.invariant.1
      c.paint_columns.ensures,
)

pub returns : goal.returns
returns g c =
    let done : c.loop-first.first ≡ c.args.damage.now.width = omega (arith, c.width-width.ensures, c.loop-first.invariant.0) in
    subst (λ (end : ℕ). IsPaintedIn (pixel_of c.args.pixels.now) (pixel_of c.loop-first.pixels)
    (λ x y. AreOpaqueAsSaid (pos x) (pos y) (g.W.Windows.windows c.args.layers.now.windows.now))
    (λ x y. scratch c.args.layers.now.background (g.W.Windows.windows c.args.layers.now.windows.now) (pos x) (pos y)) (has c.args.damage.now)
    c.args.damage.now.width (is_in (record { first = 0; end = end }) c.args.rows)) done c.loop-first.invariant.1
