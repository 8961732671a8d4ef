use Rattle.std.proofs.Common.{ℕ, ◌<◌, ◌+◌, ◌*◌, pos, take, length}
use Rattle.wl_paint.specs.Painting.{Shows, pixel_of}
use Rattle.wl_paint.specs.Window.{AreOpaqueAsSaid, scratch}
use Rattle.wl_paint.proofs.painting.paint_run.Given as goal

-- the windows so far are painted
abbrev pub invariant-loop-k : goal.invariant-loop-k
invariant-loop-k g l = (i : ℕ) → 4 * i < length l.run
    → Shows (AreOpaqueAsSaid (pos (l.x + i)) (pos l.y) (g.W.Windows.windows l.layers.windows.now))
    (scratch l.layers.background (take l.k (g.W.Windows.windows l.layers.windows.now)) (pos (l.x + i)) (pos l.y)) (pixel_of l.run i)
