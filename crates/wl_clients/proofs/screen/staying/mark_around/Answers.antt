use Rattle.wl_clients.proofs.OnScreen.Added.{around-added}
use Rattle.wl_clients.proofs.screen.staying.mark_around.Goals as goal

pub returns-clause-points : goal.returns-clause-points
returns-clause-points g c =
    around-added c.args.changes.now c.args.was.now c.args.is.now c.lowest.result.now c.lowest-2.result.now c.above-rest_was.result.now c.above-rest_is.result.now
    c.below_top.result.now c.below_top-2.result.now c.top.result.now c.top-2.result.now c.args.damage.now c.mark_tree.new.damage c.mark_past.new.damage c.mark_tree-2.new.damage
    c.args.stay.below c.args.stay.above c.lowest.ensures c.lowest-2.ensures c.above-rest_was.ensures c.above-rest_is.ensures c.below_top.ensures c.below_top-2.ensures
    c.top.ensures c.top-2.ensures c.mark_tree.ensures.points c.mark_tree.ensures.sides c.mark_past.ensures.points c.mark_past.ensures.sides c.mark_tree-2.ensures.points
