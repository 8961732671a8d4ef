use Rattle.std.proofs.Common.{refl}
use Rattle.wl_links.specs.Family.{committed}
use Rattle.wl_links.proofs.Books.{stacks-changed, stacks-none}
use Rattle.wl_links.proofs.stacks.hold.Goals as goal

pub returns-in-Some : goal.returns-in-Some
returns-in-Some g c =
    stacks-changed c.args.stacks.now (c.get_mut.follows.lender c.hold.new.self) c.args.surface c.in-Some.children.now c.hold.new.self c.in-Some.ensures.value
    (c.get_mut.follows.holds c.hold.new.self) committed c.hold.ensures

pub returns-in_default : goal.returns-in_default
returns-in_default g c = stacks-none c.args.stacks.now c.get_mut.follows.lender-at-none c.args.surface committed c.in_default.ensures.value c.get_mut.follows.holds-at-none refl
