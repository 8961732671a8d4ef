use Rattle.std.proofs.Common.{◌∙◌, List, ap}
use Rattle.wl_links.specs.declared.placed.Member.TheVariants.{Itself}
use Rattle.wl_links.specs.declared.placed.Placed.{Placed}
use Rattle.wl_links.specs.Stacks.{beside, has_member, placed, whole}
use Rattle.wl_links.proofs.Whole.{has-whole_placed, whole-placed}
use Rattle.wl_links.proofs.stack.Stack.place.Goals as goal

pub invariant_of-self : goal.invariant_of-self
invariant_of-self g c =
    ap (λ (ps : List Placed). has_member Itself (whole ps)) c.place_beside.ensures
    ∙ has-whole_placed c.args.side c.args.child c.args.at c.self.inside.places.items c.self.invariant

pub returns : goal.returns
returns g c =
    ap (λ (ps : List Placed). whole ps) c.place_beside.ensures
    ∙ (whole-placed c.args.side c.args.child c.args.at c.self.inside.places.items c.self.invariant
    ∙ ap (λ (ps : List Placed). placed (beside c.args.side) c.args.child c.args.at ps) c.self.view_is)
