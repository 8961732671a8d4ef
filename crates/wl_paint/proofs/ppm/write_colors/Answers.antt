use Rattle.std.proofs.Common.{arith}
use Rattle.wl_paint.proofs.Colors.{colors-chunk}
use Rattle.wl_paint.proofs.Written.{Appends-join}
use Rattle.wl_paint.proofs.ppm.write_colors.Goals as goal

pub loop-done-preserved : goal.loop-done-preserved
loop-done-preserved g c = (
  omega (arith, c.min-end.ensures),
  Appends-join _ _ _ _ _ _ c.loop-done.invariant.1 c.in_ok-write_piece.ensures
      (colors-chunk c.loop-done.done c.min-end.result c.args.pixels.now (omega (arith, c.min-end.ensures)) (omega (arith, c.min-end.ensures))),
)
