use Rattle.std.proofs.Common.{refl}
use Rattle.std.proofs.Common.{rules, w32}
use Rattle.std.proofs.lemmas.Int.{to_z-of_z}
use Rattle.std.specs.Prelude.{FitsSigned}
use Rattle.wl_links.specs.Stacks.{moved}
use Rattle.wl_links.specs.Family.{pending_as}
use Rattle.wl_links.proofs.Books.{moved-as, stacks-changed-ok, stacks-none, stayed-err}
use Rattle.wl_links.proofs.stacks.move_child.Goals as goal

pub returns-in-Some-clause-ok : goal.returns-in-Some-clause-ok
returns-in-Some-clause-ok g c =
    let x : FitsSigned w32 c.args.x = search rules in
    let y : FitsSigned w32 c.args.y = search rules in
    stacks-changed-ok c.args.stacks.now (c.get_mut.follows.lender c.set_position.new.self) c.args.parent c.in-Some.children.now c.set_position.new.self c.in-Some.ensures.value
    (c.get_mut.follows.holds c.set_position.new.self) c.set_position.result (pending_as (moved c.args.child c.args.x c.args.y))
    (moved-as c.set_position.result c.set_position.new.self c.in-Some.children.now c.args.child c.args.x c.args.y _ _ (to_z-of_z w32 c.args.x x) (to_z-of_z w32 c.args.y y) c.set_position.ensures.ok)

pub returns-in-Some-clause-err : goal.returns-in-Some-clause-err
returns-in-Some-clause-err g c =
    stayed-err c.args.stacks.now (c.get_mut.follows.lender c.set_position.new.self) c.args.parent c.in-Some.children.now c.set_position.new.self c.in-Some.ensures.value
    (c.get_mut.follows.holds c.set_position.new.self) c.set_position.result c.set_position.ensures.err

pub returns-in-None-clause-ok : goal.returns-in-None-clause-ok
returns-in-None-clause-ok g c =
    stacks-none c.args.stacks.now c.get_mut.follows.lender-at-none c.args.parent (pending_as (moved c.args.child c.args.x c.args.y)) c.in-None.ensures.value c.get_mut.follows.holds-at-none refl
