use Rattle.std.proofs.Common.{◌≡◌, length}
use Rattle.wl_clients.proofs.OnScreen.Released.{GoOn}
use Rattle.wl_clients.proofs.screen.screens.Screen.remove_dismissed.Given as goal

-- some of the trees went, and the toplevels stand as they did
abbrev pub invariant-loop-root : goal.invariant-loop-root
invariant-loop-root g l =
    GoOn l.client l.shell l.fn.self.stacked.windows l.self.stacked.windows l.fn.self.damage l.self.damage × (l.self.scene ≡ l.fn.self.scene)

abbrev pub decreases-loop-root : goal.decreases-loop-root
decreases-loop-root g l = length l.self.stacked.windows
