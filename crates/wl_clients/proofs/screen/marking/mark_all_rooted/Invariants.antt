use Rattle.std.proofs.Common.{take}
use Rattle.wl_scene.proofs.Marked.{IsMarked}
use Rattle.wl_clients.proofs.screen.marking.mark_all_rooted.Given as goal
use Rattle.wl_clients.specs.Gone.{is_tree_at}

abbrev pub invariant-loop-stacked : goal.invariant-loop-stacked
invariant-loop-stacked g l = IsMarked (is_tree_at l.client l.root) (take l.stacked-index l.windows) l.fn.damage l.damage
