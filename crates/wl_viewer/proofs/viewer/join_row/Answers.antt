use Rattle.std.proofs.Common.{arith}
use Rattle.wl_viewer.proofs.Joined.{row-all, row-more, row-none}
use Rattle.wl_viewer.proofs.viewer.join_row.Goals as goal

pub loop-x-init : goal.loop-x-init
loop-x-init g c = row-none c.args.y c.args.damage.now c.args.untold.now

pub rect_of-requires-clause-column : goal.rect_of-requires-clause-column
rect_of-requires-clause-column g c = omega (arith, c.in-Some.ensures.within, c.requires.narrow)

pub rect_of-requires-clause-width : goal.rect_of-requires-clause-width
rect_of-requires-clause-width g c = omega (arith, c.in-Some.ensures.within, c.requires.narrow)

pub loop-x-preserved : goal.loop-x-preserved
loop-x-preserved g c =
    row-more c.args.y c.loop-x.from c.in-Some.x c.in-Some.w c.rect_of.result c.args.damage.now c.args.untold.now c.loop-x.untold c.add.new.self c.rect_of.ensures c.in-Some.ensures
    c.add.ensures.points c.add.ensures.width c.add.ensures.height c.requires.wide c.loop-x.invariant

pub returns-clause-points : goal.returns-clause-points
returns-clause-points g c = row-all c.args.y c.loop-x.from c.args.damage.now c.args.untold.now c.loop-x.untold c.requires.wide (rw c.in_default.is at c.next_run.ensures) c.loop-x.invariant

pub returns-clause-width : goal.returns-clause-width
returns-clause-width g c = c.loop-x.invariant.width

pub returns-clause-height : goal.returns-clause-height
returns-clause-height g c = c.loop-x.invariant.height
