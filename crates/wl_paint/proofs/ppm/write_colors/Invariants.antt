use Rattle.std.proofs.Common.{◌-◌, ◌≤◌}
use Rattle.std.specs.Io.KnownBytes.{Appends}
use Rattle.wl_paint.specs.Image.{colors}
use Rattle.wl_paint.proofs.ppm.write_colors.Given as goal

-- the colours of the pixels so far were written
abbrev pub invariant-loop-done : goal.invariant-loop-done
invariant-loop-done g l = (l.done ≤ l.count) × Appends (g.W.Write.contents l.fn.writer) (g.W.Write.contents l.writer) (colors l.done l.pixels)

abbrev pub decreases-loop-done : goal.decreases-loop-done
decreases-loop-done g l = l.count - l.done
