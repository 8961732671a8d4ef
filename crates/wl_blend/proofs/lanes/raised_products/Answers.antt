use Rattle.std.proofs.Common.{arith, refl}
use Rattle.std.specs.Prelude.{replicate, slice_index}
use Rattle.wl_blend.proofs.Vectors.{lane-zip2, lane-below, lane-splat, count-zip2, product-le, IsBelow-from_lanes}
use Rattle.wl_blend.proofs.lanes.raised_products.Goals as goal

pub returns-clause-lanes : goal.returns-clause-lanes
returns-clause-lanes c k h =
    let under = c.args.under in
    let through = c.args.through in
    let half = lane-splat 128 k h in
    let small = product-le (slice_index under k) (slice_index through k) (lane-below 256 under k c.requires.under h) (lane-below 256 through k c.requires.through h) in
    rw (
      lane-zip2 _ _ (replicate 16 128) k (count-zip2 _ under through c.requires.under.count c.requires.through.count) refl h,
      lane-zip2 _ under through k c.requires.under.count c.requires.through.count h,
    ) (omega (arith, half, small))

pub returns-clause-below : goal.returns-clause-below
returns-clause-below c =
    let under = c.args.under in
    let through = c.args.through in
    IsBelow-from_lanes 65154 _ (count-zip2 _ _ (replicate 16 128) (count-zip2 _ under through c.requires.under.count c.requires.through.count) refl)
    (λ k h.
    let e = returns-clause-lanes c k h in
    let small = product-le (slice_index under k) (slice_index through k) (lane-below 256 under k c.requires.under h) (lane-below 256 through k c.requires.through h) in
    rw e (omega (arith, small)))
