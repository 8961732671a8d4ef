use Rattle.std.proofs.Common.{arith, ◌∙◌}
use Rattle.wl_desk.proofs.Rests.{left-on}
use Rattle.wl_desk.proofs.Struck.{none-over, over-last, over-never, over-next}
use Rattle.wl_session.proofs.settling.end_each.Goals as goal

pub loop-init : goal.loop-init
loop-init g c = none-over c.args.desk.now

pub returns-in_default-clause-ends : goal.returns-in_default-clause-ends
returns-in_default-clause-ends g c = over-last c.loop.counter c.args.desk.now c.loop.desk c.loop.invariant c.in_default.ensures.first

pub returns-in_default-clause-sides : goal.returns-in_default-clause-sides
returns-in_default-clause-sides g c = c.loop.invariant.sides

pub returns-in_default-clause-rests : goal.returns-in_default-clause-rests
returns-in_default-clause-rests g c = c.loop.invariant.rests

pub returns-in_default-clause-output : goal.returns-in_default-clause-output
returns-in_default-clause-output g c = c.loop.invariant.output

pub loop-preserved : goal.loop-preserved
loop-preserved g c =
    let inv = c.loop.invariant in
    let before = c.end_struck.ensures.sides in
    record {
      done = over-next c.loop.counter c.args.desk.now c.loop.desk inv c.in-Some.client c.in-Some.ensures.first c.in-Some.ensures.count c.end_struck.new.self c.end_struck.ensures.ends
          c.end_struck.ensures.marks _ (omega arith);
      sides = record { width = before.width ∙ inv.sides.width; height = before.height ∙ inv.sides.height };
      rests = left-on c.args.desk.now.desk.kept c.loop.desk.desk.kept c.end_struck.new.self.desk.kept inv.rests c.end_struck.ensures.rests;
      output = c.end_struck.ensures.output ∙ inv.output;
    }

pub returns-clause-ends : goal.returns-clause-ends
returns-clause-ends g c = over-never c.loop.counter c.args.desk.now c.loop.desk c.loop.invariant (omega (arith, c.loop-test.false)) c.loop.desk

pub returns-clause-sides : goal.returns-clause-sides
returns-clause-sides g c = c.loop.invariant.sides

pub returns-clause-rests : goal.returns-clause-rests
returns-clause-rests g c = c.loop.invariant.rests

pub returns-clause-output : goal.returns-clause-output
returns-clause-output g c = c.loop.invariant.output
