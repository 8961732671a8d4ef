use Rattle.std.proofs.Common.{◌≡◌, ◌++◌, drop, map, take}
use Rattle.wl_links.specs.Stacks.{moved_place}
use Rattle.wl_links.proofs.placed.move_child.Given as goal

abbrev pub invariant-loop-place : goal.invariant-loop-place
invariant-loop-place l = l.places ≡ map (moved_place l.child l.x l.y) (take l.place-index l.initial.places) ++ drop l.place-index l.initial.places
