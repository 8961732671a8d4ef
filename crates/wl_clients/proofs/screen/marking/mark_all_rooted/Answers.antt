use Rattle.std.proofs.Common.{arith}
use Rattle.wl_scene.proofs.Marked.{marked-more}
use Rattle.wl_clients.proofs.screen.marking.mark_all_rooted.Goals as goal
use Rattle.wl_clients.specs.Gone.{is_tree_at}

pub loop-stacked-preserved : goal.loop-stacked-preserved
loop-stacked-preserved g c =
    marked-more (is_tree_at c.args.client c.args.root) c.args.windows.now c.loop-stacked.stacked-index _ c.args.damage.now c.loop-stacked.damage c.mark_rooted.new.damage (omega arith)
    c.loop-stacked.invariant c.mark_rooted.ensures.points c.mark_rooted.ensures.sides
