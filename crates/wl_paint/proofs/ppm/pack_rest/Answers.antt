use Rattle.std.proofs.Common.{◌<◌, ◌+◌, ◌*◌, length, arith}
use Rattle.wl_paint.proofs.Colors.{colors-more}
use Rattle.wl_paint.proofs.ppm.pack_rest.Goals as goal

pub loop-i-preserved : goal.loop-i-preserved
loop-i-preserved c =
    let within : 3 * c.loop-i.i + 2 < length c.loop-i.packed = omega arith in
    colors-more c.loop-i.packed c.args.pixels.now c.loop-i.i within c.loop-i.invariant
