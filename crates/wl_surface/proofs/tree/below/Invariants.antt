use Rattle.std.proofs.Common.{◌≡◌, take}
use Rattle.wl_surface.proofs.TreeBelow.{numbered_in}
use Rattle.wl_surface.proofs.tree.below.Given as goal

abbrev pub invariant-loop-place : goal.invariant-loop-place
invariant-loop-place g l = l.below.items ≡ numbered_in (take l.place-index l.tree)
