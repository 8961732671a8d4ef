use Rattle.std.proofs.Common.{◌∙◌, refl, rules, arith}
use Rattle.std.proofs.lemmas.List.{take_rest}
use Rattle.wl_server.specs.Moves.{none, more}
use Rattle.wl_server.proofs.delivery.deliver.Goals as goal

pub loop-sent-init : goal.loop-sent-init
loop-sent-init g c = record { within = omega arith; written = none; calm = refl }

pub loop-sent-preserved : goal.loop-sent-preserved
loop-sent-preserved g c =
    let inv = c.loop-sent.invariant in
    let took = rw c.in-Ok-Some.field-0-is at c.in-Ok-Some.ensures in
    record {
      within = search rules;
      written = more _ inv.written (search rules) (rw (take_rest c.args.bytes.now c.loop-sent.sent) at took.bytes);
      calm = took.faults ∙ inv.calm;
    }
