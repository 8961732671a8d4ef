use Rattle.wl_links.specs.Stacks.{added}
use Rattle.wl_links.specs.Family.{pending_as}
use Rattle.wl_links.proofs.Books.{stacks-changed-ok, stacks-first, stayed-err}
use Rattle.wl_links.proofs.stacks.add_child.Goals as goal

pub returns-in-Some-clause-ok : goal.returns-in-Some-clause-ok
returns-in-Some-clause-ok g c =
    stacks-changed-ok c.args.stacks.now (c.get_mut.follows.lender c.add.new.self) c.args.parent c.in-Some.children.now c.add.new.self c.in-Some.ensures.value
    (c.get_mut.follows.holds c.add.new.self) c.add.result (pending_as (added c.args.child)) c.add.ensures.ok

pub returns-in-Some-clause-err : goal.returns-in-Some-clause-err
returns-in-Some-clause-err g c =
    stayed-err c.args.stacks.now (c.get_mut.follows.lender c.add.new.self) c.args.parent c.in-Some.children.now c.add.new.self c.in-Some.ensures.value
    (c.get_mut.follows.holds c.add.new.self) c.add.result c.add.ensures.err

pub returns-in_ok-insert-in-None-clause-ok : goal.returns-in_ok-insert-in-None-clause-ok
returns-in_ok-insert-in-None-clause-ok g c =
    stacks-first c.args.stacks.now c.get_mut.follows.lender-at-none c.insert.new.self c.args.parent c.new-children.result c.add-in-None.new.self (pending_as (added c.args.child))
    c.in-None.ensures.value c.get_mut.follows.holds-at-none c.in_ok-insert-in-None.ensures.updates c.new-children.ensures c.in_ok-add-in-None.ensures.ok
