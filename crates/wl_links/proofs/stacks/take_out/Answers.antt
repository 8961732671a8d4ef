use Rattle.std.proofs.Common.{refl}
use Rattle.wl_links.specs.Stacks.{removed}
use Rattle.wl_links.proofs.Books.{stacks-changed, stacks-none}
use Rattle.wl_links.proofs.stacks.take_out.Goals as goal

pub returns-in-Some : goal.returns-in-Some
returns-in-Some g c =
    stacks-changed c.args.stacks.now (c.get_mut.follows.lender c.remove.new.self) c.args.parent c.in-Some.children.now c.remove.new.self c.in-Some.ensures.value
    (c.get_mut.follows.holds c.remove.new.self) (removed c.args.child) c.remove.ensures

pub returns-in_default : goal.returns-in_default
returns-in_default g c = stacks-none c.args.stacks.now c.get_mut.follows.lender-at-none c.args.parent (removed c.args.child) c.in_default.ensures.value c.get_mut.follows.holds-at-none refl
