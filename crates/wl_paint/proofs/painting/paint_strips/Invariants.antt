use Rattle.std.proofs.Common.{◌-◌, ◌≤◌, pos}
use Rattle.wl_paint.specs.Painting.{IsPaintedIn, is_in, pixel_of}
use Rattle.wl_paint.specs.Window.{AreOpaqueAsSaid, scratch}
use Rattle.wl_paint.specs.Damage.{has}
use Rattle.wl_paint.proofs.painting.paint_strips.Given as goal

-- the columns so far are painted
abbrev pub invariant-loop-first : goal.invariant-loop-first
invariant-loop-first g l =
    (l.first ≤ l.damage.width)
    × IsPaintedIn (pixel_of l.initial.pixels) (pixel_of l.pixels) (λ x y. AreOpaqueAsSaid (pos x) (pos y) (g.W.Windows.windows l.layers.windows.now))
    (λ x y. scratch l.layers.background (g.W.Windows.windows l.layers.windows.now) (pos x) (pos y)) (has l.damage) l.damage.width (is_in (record { first = 0; end = l.first }) l.rows)

abbrev pub decreases-loop-first : goal.decreases-loop-first
decreases-loop-first g l = l.width - l.first
