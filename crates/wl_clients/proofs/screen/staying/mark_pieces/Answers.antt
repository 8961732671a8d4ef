use Rattle.wl_clients.proofs.OnScreen.Added.{pieces-added}
use Rattle.wl_clients.proofs.screen.staying.mark_pieces.Goals as goal

pub returns-clause-points : goal.returns-clause-points
returns-clause-points g c =
    pieces-added c.args.changes.now c.args.was.now c.args.is.now c.lowest-below_was.result.now c.lowest-below_is.result.now c.above-rest_was.result.now c.above-rest_is.result.now
    c.lowest.result.now c.lowest-2.result.now c.above.result.now c.above-2.result.now c.args.damage.now c.mark_tree.new.damage c.mark_tree-2.new.damage c.mark_tree-3.new.damage
    c.args.pieces.below_was c.args.pieces.below_is c.args.pieces.stay c.lowest-below_was.ensures c.lowest-below_is.ensures c.above-rest_was.ensures c.above-rest_is.ensures
    c.lowest.ensures c.lowest-2.ensures c.above.ensures c.above-2.ensures c.mark_tree.ensures.points c.mark_tree.ensures.sides c.mark_tree-2.ensures.points
    c.mark_tree-2.ensures.sides c.mark_tree-3.ensures.points
