use Rattle.std.proofs.Common.{refl}
use Rattle.wl_links.specs.Stacks.{beside, placed}
use Rattle.wl_links.specs.Family.{pending_as}
use Rattle.wl_links.proofs.Books.{stacks-changed-ok, stacks-none, stayed-err}
use Rattle.wl_links.proofs.stacks.put_beside.Goals as goal

pub returns-in-Some-clause-ok : goal.returns-in-Some-clause-ok
returns-in-Some-clause-ok g c =
    stacks-changed-ok c.args.stacks.now (c.get_mut.follows.lender c.place.new.self) c.args.parent c.in-Some.children.now c.place.new.self c.in-Some.ensures.value
    (c.get_mut.follows.holds c.place.new.self) c.place.result (pending_as (placed (beside c.args.side) c.args.child c.args.at)) c.place.ensures.ok

pub returns-in-Some-clause-err : goal.returns-in-Some-clause-err
returns-in-Some-clause-err g c =
    stayed-err c.args.stacks.now (c.get_mut.follows.lender c.place.new.self) c.args.parent c.in-Some.children.now c.place.new.self c.in-Some.ensures.value
    (c.get_mut.follows.holds c.place.new.self) c.place.result c.place.ensures.err

pub returns-in-None-clause-ok : goal.returns-in-None-clause-ok
returns-in-None-clause-ok g c =
    stacks-none c.args.stacks.now c.get_mut.follows.lender-at-none c.args.parent (pending_as (placed (beside c.args.side) c.args.child c.args.at)) c.in-None.ensures.value c.get_mut.follows.holds-at-none refl
