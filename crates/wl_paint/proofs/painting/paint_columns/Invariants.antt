use Rattle.std.proofs.Common.{pos}
use Rattle.wl_paint.specs.Painting.{IsPaintedIn, is_in, pixel_of}
use Rattle.wl_paint.specs.Window.{AreOpaqueAsSaid, scratch}
use Rattle.wl_paint.specs.Damage.{has}
use Rattle.wl_paint.proofs.painting.paint_columns.Given as goal

-- the rows so far are painted
abbrev pub invariant-loop-y : goal.invariant-loop-y
invariant-loop-y g l =
    IsPaintedIn (pixel_of l.initial.pixels) (pixel_of l.pixels) (λ x y. AreOpaqueAsSaid (pos x) (pos y) (g.W.Windows.windows l.layers.windows.now))
    (λ x y. scratch l.layers.background (g.W.Windows.windows l.layers.windows.now) (pos x) (pos y)) (has l.damage) l.damage.width
    (is_in l.columns (record { first = l.fn.rows.first; end = l.y }))
