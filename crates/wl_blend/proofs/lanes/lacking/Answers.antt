use Rattle.std.proofs.Common.{arith, refl}
use Rattle.std.specs.Prelude.{replicate}
use Rattle.wl_blend.proofs.Vectors.{lane-zip2, lane-below, lane-splat}
use Rattle.wl_blend.proofs.lanes.lacking.Goals as goal

pub returns-clause-lanes : goal.returns-clause-lanes
returns-clause-lanes c k h =
    let full = lane-splat 255 k h in
    let low = lane-below 256 c.args.bytes k c.requires h in
    rw (lane-zip2 _ (replicate 16 255) c.args.bytes k refl c.requires.count h) (omega (arith, full, low))
