use Rattle.std.proofs.Common.{arith, ◌∙◌}
use Rattle.wl_desk.proofs.Rests.{left-on}
use Rattle.wl_desk.proofs.Rounds.{none-settled, settled-last, settled-next, settled-over}
use Rattle.wl_session.proofs.settling.settle_all.Goals as goal

pub loop-init : goal.loop-init
loop-init g c = none-settled c.args.desk.now

pub returns-in_default-clause-settles : goal.returns-in_default-clause-settles
returns-in_default-clause-settles g c =
    settled-last c.loop.counter c.args.desk.now c.loop.desk c.loop.invariant c.settle.new.self c.settle.ensures.settles c.settle.ensures.damage c.loop-test.true
    c.in_default.ensures.first

pub returns-in_default-clause-sides : goal.returns-in_default-clause-sides
returns-in_default-clause-sides g c = rw c.settle.ensures.damage c.loop.invariant.sides

pub returns-in_default-clause-rests : goal.returns-in_default-clause-rests
returns-in_default-clause-rests g c =
    left-on c.args.desk.now.desk.kept c.loop.desk.desk.kept c.settle.new.self.desk.kept c.loop.invariant.rests c.settle.ensures.rests

pub returns-in_default-clause-output : goal.returns-in_default-clause-output
returns-in_default-clause-output g c = c.settle.ensures.output ∙ c.loop.invariant.output

pub loop-preserved : goal.loop-preserved
loop-preserved g c =
    let inv = c.loop.invariant in
    let before = rw c.settle.ensures.damage at c.end_struck.ensures.sides in
    record {
      done = settled-next c.loop.counter c.args.desk.now c.loop.desk inv c.settle.new.self c.settle.ensures.settles c.settle.ensures.damage c.in-Some.client c.in-Some.ensures.first
          c.in-Some.ensures.count c.end_struck.new.self c.end_struck.ensures.ends c.end_struck.ensures.marks _ (omega arith);
      sides = record { width = before.width ∙ inv.sides.width; height = before.height ∙ inv.sides.height };
      rests = left-on c.args.desk.now.desk.kept c.settle.new.self.desk.kept c.end_struck.new.self.desk.kept
          (left-on c.args.desk.now.desk.kept c.loop.desk.desk.kept c.settle.new.self.desk.kept inv.rests c.settle.ensures.rests) c.end_struck.ensures.rests;
      output = c.end_struck.ensures.output ∙ c.settle.ensures.output ∙ inv.output;
    }

pub returns-clause-settles : goal.returns-clause-settles
returns-clause-settles g c = settled-over c.loop.counter c.args.desk.now c.loop.desk c.loop.invariant (omega (arith, c.loop-test.false)) c.loop.desk

pub returns-clause-sides : goal.returns-clause-sides
returns-clause-sides g c = c.loop.invariant.sides

pub returns-clause-rests : goal.returns-clause-rests
returns-clause-rests g c = c.loop.invariant.rests

pub returns-clause-output : goal.returns-clause-output
returns-clause-output g c = c.loop.invariant.output
