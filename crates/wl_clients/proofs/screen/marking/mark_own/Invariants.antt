use Rattle.std.proofs.Common.{take}
use Rattle.wl_scene.proofs.Marked.{IsMarked}
use Rattle.wl_clients.proofs.screen.marking.mark_own.Given as goal
use Rattle.wl_clients.specs.Screens.{is_own_at}

abbrev pub invariant-loop-stacked : goal.invariant-loop-stacked
invariant-loop-stacked g l = IsMarked (is_own_at l.client) (take l.stacked-index l.windows) l.fn.damage l.damage
