use Rattle.std.proofs.Common.{arith}
use Rattle.wl_blend.proofs.Vectors.{least, lane-zip2, lane-below, count-zip2, count-least, lane-least, IsBelow-from_lanes}
use Rattle.wl_blend.proofs.lanes.held_sums.Goals as goal

pub returns-clause-lanes : goal.returns-clause-lanes
returns-clause-lanes c k h =
    let over = c.args.over in
    let shown = c.args.shown in
    let room = c.lacking.result in
    let x = lane-below 256 over k c.requires.over h in
    let y = lane-below 256 shown k c.requires.shown h in
    let added = count-least shown room c.requires.shown.count c.lacking.ensures.bytes.count in
    rw (
      lane-zip2 _ over (least shown room) k c.requires.over.count added h,
      lane-least shown room k c.requires.shown.count c.lacking.ensures.bytes.count h,
      c.lacking.ensures.lanes k h,
    ) (omega (arith, x, y))

pub returns-clause-bytes : goal.returns-clause-bytes
returns-clause-bytes c =
    let added = count-least c.args.shown c.lacking.result c.requires.shown.count c.lacking.ensures.bytes.count in
    IsBelow-from_lanes 256 _ (count-zip2 _ c.args.over (least c.args.shown c.lacking.result) c.requires.over.count added)
    (λ k h.
    let e = returns-clause-lanes c k h in
    rw e (omega arith))
