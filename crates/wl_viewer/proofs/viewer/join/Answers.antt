use Rattle.std.proofs.Common.{arith}
use Rattle.wl_viewer.proofs.Joined.{joined-all, joined-more, joined-none}
use Rattle.wl_viewer.proofs.viewer.join.Goals as goal

pub loop-y-init : goal.loop-y-init
loop-y-init g c = joined-none c.args.damage.now c.args.untold.now

pub loop-y-preserved : goal.loop-y-preserved
loop-y-preserved g c =
    joined-more c.loop-y.y c.args.damage.now c.args.untold.now c.loop-y.untold c.join_row.new.untold c.join_row.ensures.points c.join_row.ensures.width c.join_row.ensures.height c.loop-y.invariant

pub returns : goal.returns
returns g c = joined-all c.loop-y.y c.args.damage.now c.args.untold.now c.loop-y.untold (omega arith) c.loop-y.invariant
