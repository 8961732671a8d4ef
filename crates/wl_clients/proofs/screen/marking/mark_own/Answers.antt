use Rattle.std.proofs.Common.{arith}
use Rattle.wl_scene.proofs.Marked.{marked-more}
use Rattle.wl_clients.proofs.screen.marking.mark_own.Goals as goal
use Rattle.wl_clients.specs.Screens.{is_own_at}

pub loop-stacked-preserved : goal.loop-stacked-preserved
loop-stacked-preserved g c =
    marked-more (is_own_at c.args.client) c.args.windows.now c.loop-stacked.stacked-index _ c.args.damage.now c.loop-stacked.damage c.mark_one.new.damage (omega arith)
    c.loop-stacked.invariant c.mark_one.ensures.points c.mark_one.ensures.sides
