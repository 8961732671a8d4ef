use Rattle.wl_surface.proofs.TreeBelow.{among-none, among-tree, is-empty, isnt-empty, once-run}
use Rattle.wl_surface.proofs.tree.below.Goals as goal

pub returns-then-is_empty-clause-those : goal.returns-then-is_empty-clause-those
returns-then-is_empty-clause-those g c =
    let tree = c.tree-tree.ensures in
    among-none c.args.family.now tree.stand c.args.surface c.tree-tree.result.now tree.tree tree.run tree.none
    (is-empty c.tree-tree.result.now c.is_empty.result c.is_empty.ensures c.if-is_empty.true) c.new-below.result.items c.push.new.self.items c.new-below.ensures.items
    c.in_ok-push.ensures.items

pub returns-clause-those : goal.returns-clause-those
returns-clause-those g c =
    let tree = c.tree-tree.ensures in
    among-tree c.args.family.now tree.stand c.args.surface c.tree-tree.result.now tree.tree tree.run tree.none
    (isnt-empty c.tree-tree.result.now c.is_empty.result c.is_empty.ensures c.if-is_empty.false) c.loop-place.below.items c.loop-place.place-index c.loop-place-test.false
    c.loop-place.invariant

pub returns-clause-once : goal.returns-clause-once
returns-clause-once g c =
    let tree = c.tree-tree.ensures in
    once-run c.args.family.now tree.stand c.tree-tree.result.now tree.run c.loop-place.below.items c.loop-place.place-index c.loop-place-test.false c.loop-place.invariant
