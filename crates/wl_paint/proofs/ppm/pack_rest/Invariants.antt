use Rattle.std.proofs.Common.{◌≡◌, ◌*◌, take}
use Rattle.wl_paint.specs.Image.{colors}
use Rattle.wl_paint.proofs.ppm.pack_rest.Given as goal

abbrev pub invariant-loop-i : goal.invariant-loop-i
invariant-loop-i l = take (3 * l.i) l.packed ≡ colors l.i l.pixels
