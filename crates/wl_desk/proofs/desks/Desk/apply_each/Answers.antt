use Rattle.std.proofs.Common.{refl, ◌∙◌, arith}
use Rattle.wl_desk.proofs.Rests.{left-all, left-on}
use Rattle.wl_desk.proofs.Applying.{all-applied, more-applied, none-applied}
use Rattle.wl_desk.proofs.desks.Desk.apply_each.Goals as goal

pub loop-action-init : goal.loop-action-init
loop-action-init g c = record { applied = none-applied c.args.actions.now c.args.self.now.desk; pointer = refl; seats = refl; damage = refl; rests = left-all c.args.self.now.desk.kept; output = refl }

pub loop-action-preserved : goal.loop-action-preserved
loop-action-preserved g c =
    let inv = c.loop-action.invariant in
    record {
      applied = more-applied c.loop-action.action-index _ c.args.actions.now _ c.args.self.now.desk c.loop-action.self.desk c.apply.new.self.desk c.loop-action-test.true (omega arith)
          c.apply.ensures.tells inv.applied;
      pointer = c.apply.ensures.pointer ∙ inv.pointer;
      seats = c.apply.ensures.seats ∙ inv.seats;
      damage = c.apply.ensures.damage ∙ inv.damage;
      rests = left-on c.args.self.now.desk.kept c.loop-action.self.desk.kept c.apply.new.self.desk.kept inv.rests c.apply.ensures.rests;
      output = c.apply.ensures.output ∙ inv.output;
    }

pub returns-clause-tells : goal.returns-clause-tells
returns-clause-tells g c = all-applied c.loop-action.action-index c.args.actions.now c.args.self.now.desk c.loop-action.self.desk c.loop-action-test.false c.loop-action.invariant.applied

pub returns-clause-pointer : goal.returns-clause-pointer
returns-clause-pointer g c = c.loop-action.invariant.pointer

pub returns-clause-seats : goal.returns-clause-seats
returns-clause-seats g c = c.loop-action.invariant.seats

pub returns-clause-damage : goal.returns-clause-damage
returns-clause-damage g c = c.loop-action.invariant.damage

pub returns-clause-rests : goal.returns-clause-rests
returns-clause-rests g c = c.loop-action.invariant.rests

pub returns-clause-output : goal.returns-clause-output
returns-clause-output g c = c.loop-action.invariant.output
