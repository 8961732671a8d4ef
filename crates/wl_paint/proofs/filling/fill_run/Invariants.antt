use Rattle.std.proofs.Common.{◌≡◌, ℕ, ◌<◌, ◌*◌}
use Rattle.wl_paint.specs.Painting.{opaque, pixel_of}
use Rattle.wl_paint.proofs.filling.fill_run.Given as goal

-- the pixels so far have the colour
abbrev pub invariant-loop-i : goal.invariant-loop-i
invariant-loop-i l = (k : ℕ) → k < 4 * l.i → pixel_of l.run k ≡ opaque l.color
