use Rattle.std.proofs.Common.{◌∙◌, arith, take}
use Rattle.wl_surface.specs.Tree.{applied_among}
use Rattle.wl_surface.proofs.TreeApplied.{none-listed, some-listed, stacks-next, stand-next, told-behind, waits-next}
use Rattle.wl_surface.proofs.tree.apply_each.Goals as goal
use Rattle.wl_surface.proofs.tree.apply_each.Goals.{in-Some, in_default}

pub loop-number-preserved : goal.loop-number-preserved
loop-number-preserved g c =
    let numbers = c.args.numbers.now in
    let i = c.loop-number.number-index in
    let less = c.loop-number-test.true in
    record {
      len = elim c.match-apply.branch [
        | in-Some w ↦ rw w.changes-is (omega (arith, w.push_reserved.ensures.len, c.loop-number.invariant.len))
        | in_default w ↦ rw w.changes-is (omega (arith, c.loop-number.invariant.len))
      ];
      capacity = elim c.match-apply.branch [
        | in-Some w ↦ rw w.changes-is (cc)
        | in_default w ↦ rw w.changes-is (c.loop-number.invariant.capacity)
      ];
      stand = λ all stand. stand-next numbers i 0 less all c.apply.new.self (c.apply.ensures.stand.stand (applied_among (take i numbers) all) (c.loop-number.invariant.stand all stand));
      waits = λ all cs wait.
          waits-next numbers i 0 less all c.apply.new.self.frames cs (c.apply.ensures.waits (applied_among (take i numbers) all) cs (c.loop-number.invariant.waits all cs wait));
      told = λ all stand once.
          told-behind numbers i 0 all c.args.changes.now.items c.loop-number.changes.items c.match-apply.changes.items c.apply.result less once (c.loop-number.invariant.told all stand once)
          (c.apply.ensures.change (applied_among (take i numbers) all) (c.loop-number.invariant.stand all stand))
          (elim c.match-apply.branch [
            | in-Some w ↦ rw w.changes-is (some-listed c.loop-number.changes.items w.push_reserved.new.self.items c.apply.result w.in-Some.change w.in-Some.is w.push_reserved.ensures.items)
            | in_default w ↦ rw w.changes-is (none-listed c.loop-number.changes.items c.apply.result w.in_default.is)
          ]);
      links = c.apply-in-loop-number.ensures.links ∙ c.loop-number.invariant.links;
      places = c.apply-in-loop-number.ensures.places ∙ c.loop-number.invariant.places;
      stacks = stacks-next numbers i 0 less _ _ _ c.loop-number.invariant.stacks c.apply-in-loop-number.ensures.stacks;
    }
