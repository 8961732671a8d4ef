use Rattle.std.proofs.Common.{◌∙◌, List, ap}
use Rattle.wl_links.specs.declared.placed.Member.TheVariants.{Itself, Child}
use Rattle.wl_links.specs.declared.placed.Placed.{Placed}
use Rattle.wl_links.specs.Stacks.{has_member, whole, without}
use Rattle.wl_links.proofs.Whole.{has-whole_without, whole-without}
use Rattle.wl_links.proofs.stack.Stack.remove.Goals as goal

pub invariant_of-self : goal.invariant_of-self
invariant_of-self g c =
    ap (λ (ps : List Placed). has_member Itself (whole ps)) c.take_out.ensures.items ∙ has-whole_without c.args.child c.self.inside.places.items c.self.invariant

pub returns : goal.returns
returns g c =
    ap (λ (ps : List Placed). whole ps) c.take_out.ensures.items
    ∙ (whole-without c.args.child c.self.inside.places.items c.self.invariant ∙ ap (λ (ps : List Placed). without (Child c.args.child) ps) c.self.view_is)
