use Rattle.std.proofs.Common.{◌*◌, pos}
use Rattle.wl_paint.specs.Painting.{pixel_of}
use Rattle.wl_paint.specs.Window.{AreOpaqueAsSaid, scratch}
use Rattle.wl_paint.specs.Damage.{has}
use Rattle.wl_paint.proofs.PaintedRows.{painted-row}
use Rattle.wl_paint.proofs.PaintedRuns.{IsPaintedTo-at, IsPaintedTo-none}
use Rattle.wl_paint.proofs.painting.paint_runs.Goals as goal

pub loop-start-init : goal.loop-start-init
loop-start-init g c =
    IsPaintedTo-none (pixel_of c.args.pixels.now) (λ x. AreOpaqueAsSaid (pos x) (pos c.args.y) (g.W.Windows.windows c.args.layers.now.windows.now))
    (λ x. scratch c.args.layers.now.background (g.W.Windows.windows c.args.layers.now.windows.now) (pos x) (pos c.args.y)) (λ x. has c.args.damage.now x c.args.y)
    (c.args.y * c.args.damage.now.width) c.args.columns.first c.args.columns.end c.requires.order

pub loop-start-preserved : goal.loop-start-preserved
loop-start-preserved g c =
    IsPaintedTo-at (pixel_of c.args.pixels.now) (pixel_of c.loop-start.pixels) (pixel_of c.paint_part.new.pixels)
    (λ x. AreOpaqueAsSaid (pos x) (pos c.args.y) (g.W.Windows.windows c.args.layers.now.windows.now))
    (λ x. scratch c.args.layers.now.background (g.W.Windows.windows c.args.layers.now.windows.now) (pos x) (pos c.args.y)) (λ x. has c.args.damage.now x c.args.y)
    (c.args.y * c.args.damage.now.width) c.args.columns.first c.args.columns.end c.loop-start.from c.in-Some.start c.in-Some.count c.number_of.result
    c.number_of.ensures c.in-Some.ensures.some c.loop-start.invariant c.paint_part.ensures.inside c.paint_part.ensures.outside

pub returns : goal.returns
returns g c =
    painted-row (λ x z. AreOpaqueAsSaid (pos x) (pos z) (g.W.Windows.windows c.args.layers.now.windows.now))
    (λ x z. scratch c.args.layers.now.background (g.W.Windows.windows c.args.layers.now.windows.now) (pos x) (pos z)) (has c.args.damage.now) c.args.damage.now.width
    (pixel_of c.args.pixels.now) (pixel_of c.loop-start.pixels) c.args.columns c.args.y c.loop-start.from c.requires.within c.loop-start.invariant
    c.in_default.ensures.none
