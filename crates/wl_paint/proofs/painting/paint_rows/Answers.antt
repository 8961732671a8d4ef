use Rattle.std.proofs.Common.{◌≡◌, ℕ, pos, sym, subst, arith}
use Rattle.wl_paint.specs.Damage.{has}
use Rattle.wl_paint.specs.Painting.{IsPaintedIn, is_in, pixel_of}
use Rattle.wl_paint.specs.Window.{AreOpaqueAsSaid, scratch}
use Rattle.wl_paint.proofs.PaintedRows.{painted-no_rows, painted-rows}
use Rattle.wl_paint.proofs.painting.paint_rows.Goals as goal

pub loop-first-init : goal.loop-first-init
loop-first-init g c = (omega arith, painted-no_rows _ _ _ _ _ (record { first = 0; end = c.args.width }) 0)

pub loop-first-preserved : goal.loop-first-preserved
loop-first-preserved g c =
    let band = subst (λ (w : ℕ). IsPaintedIn (pixel_of c.loop-first.pixels) (pixel_of c.paint_band.new.pixels)
    (λ x y. AreOpaqueAsSaid (pos x) (pos y) (g.W.Windows.windows c.args.layers.now.windows.now))
    (λ x y. scratch c.args.layers.now.background (g.W.Windows.windows c.args.layers.now.windows.now) (pos x) (pos y)) (has c.args.damage.now)
    w (is_in (record { first = 0; end = w }) (record { first = c.loop-first.first; end = c.min.result }))) (sym c.requires.wide) c.paint_band.ensures in (
      omega (arith, c.min.ensures),
      painted-rows _ _ _ _ _ _ _ (record { first = 0; end = c.args.width }) 0 c.loop-first.first c.min.result (omega arith) (omega (arith, c.min.ensures))
          c.loop-first.invariant.1 band,
    )

pub returns : goal.returns
returns g c =
    let done : c.loop-first.first ≡ c.args.height = omega (arith, c.loop-first.invariant.0) in
    subst (λ (end : ℕ). IsPaintedIn (pixel_of c.args.pixels.now) (pixel_of c.loop-first.pixels)
    (λ x y. AreOpaqueAsSaid (pos x) (pos y) (g.W.Windows.windows c.args.layers.now.windows.now))
    (λ x y. scratch c.args.layers.now.background (g.W.Windows.windows c.args.layers.now.windows.now) (pos x) (pos y)) (has c.args.damage.now)
    c.args.width (is_in (record { first = 0; end = c.args.width }) (record { first = 0; end = end }))) done c.loop-first.invariant.1
