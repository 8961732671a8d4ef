use Rattle.std.proofs.Common.{rules}
use Rattle.wl_links.proofs.Whole.{has-written}
use Rattle.wl_links.proofs.stack.Stack.set_position.Goals as goal

pub invariant_of-self : goal.invariant_of-self
invariant_of-self g c =
    has-written c.args.child _ _ _ c.move_child.new.places c.deref_mut.result.now c.self.inside.places.items c.move_child.ensures c.deref_mut.ensures.value (search rules) c.self.invariant
