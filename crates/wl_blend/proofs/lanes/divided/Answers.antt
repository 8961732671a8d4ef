use Rattle.std.proofs.Common.{arith, refl}
use Rattle.std.specs.Prelude.{replicate}
use Rattle.wl_blend.proofs.Vectors.{lane-zip2, lane-below, lane-splat, count-zip2, IsBelow-from_lanes}
use Rattle.wl_blend.proofs.lanes.divided.Goals as goal

pub returns-clause-lanes : goal.returns-clause-lanes
returns-clause-lanes c k h =
    let t = c.args.raised in
    let long = c.requires.count in
    let low = lane-below 65154 t k c.requires h in
    let inner = count-zip2 _ t (replicate 16 8) long refl in
    rw (lane-zip2 _ _ (replicate 16 8) k (count-zip2 _ t _ long inner) refl h, lane-zip2 _ t _ k long inner h, lane-zip2 _ t (replicate 16 8) k long refl h, lane-splat 8 k h) (omega (arith, low))

pub returns-clause-below : goal.returns-clause-below
returns-clause-below c =
    let t = c.args.raised in
    let long = c.requires.count in
    IsBelow-from_lanes 256 _ (count-zip2 _ _ (replicate 16 8) (count-zip2 _ t _ long (count-zip2 _ t (replicate 16 8) long refl)) refl)
    (λ k h.
    let e = returns-clause-lanes c k h in
    let low = lane-below 65154 t k c.requires h in
    rw e (omega (arith, low)))
