use Rattle.std.proofs.Common.{rules, ◌≡◌, ◌∙◌, arith}
use Rattle.wl_paint.proofs.MarkedRows.{rows-more}
use Rattle.wl_paint.proofs.Wholes.{IsMarkedIn-none}
use Rattle.wl_paint.proofs.damage.Damage.new.Goals as goal

pub returns-clause-width : goal.returns-clause-width
returns-clause-width g c = search rules

pub returns-clause-height : goal.returns-clause-height
returns-clause-height g c = search rules

pub returns-clause-empty : goal.returns-clause-empty
returns-clause-empty g c = search rules

pub loop-preserved : goal.loop-preserved
loop-preserved g c =
    let row = c.in_ok-new in
    let more = rows-more c.loop.rows.items c.push.new.self.items row.field-0 c.loop.counter c.args.width c.in_ok-push.ensures.items c.loop.invariant.sized
    row.ensures.width row.ensures.empty c.loop.invariant.wide c.loop.invariant.empty in
    record { wide = more.0; empty = more.1; sized = search rules }

pub invariant_of-result : goal.invariant_of-result
invariant_of-result g c =
    let all : c.loop.counter ≡ c.args.height = omega arith in
    (record { wide = c.requires.wide; high = c.requires.high; sized = c.loop.invariant.sized ∙ all; each_wide = λ y h. c.loop.invariant.wide y (rw all h) }, IsMarkedIn-none c.loop.rows.items)
