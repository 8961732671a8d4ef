use Rattle.std.proofs.Common.{◌-◌, ◌*◌, pos}
use Rattle.wl_paint.specs.Painting.{pixel_of}
use Rattle.wl_paint.specs.Window.{AreOpaqueAsSaid, scratch}
use Rattle.wl_paint.specs.Damage.{has}
use Rattle.wl_paint.proofs.PaintedRuns.{IsPaintedTo}
use Rattle.wl_paint.proofs.painting.paint_runs.Given as goal

-- the row is painted up to `from`
abbrev pub invariant-loop-start : goal.invariant-loop-start
invariant-loop-start g l =
    IsPaintedTo (pixel_of l.initial.pixels) (pixel_of l.pixels) (λ x. AreOpaqueAsSaid (pos x) (pos l.y) (g.W.Windows.windows l.layers.windows.now))
    (λ x. scratch l.layers.background (g.W.Windows.windows l.layers.windows.now) (pos x) (pos l.y)) (λ x. has l.damage x l.y) (l.y * l.damage.width)
    l.columns.first l.columns.end l.from

abbrev pub decreases-loop-start : goal.decreases-loop-start
decreases-loop-start g l = l.columns.end - l.from
