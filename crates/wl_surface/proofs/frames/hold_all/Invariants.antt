use Rattle.std.proofs.Common.{◌≡◌, ◌++◌, drop, map, take}
use Rattle.wl_surface.specs.Waiting.{held_by}
use Rattle.wl_surface.proofs.frames.hold_all.Given as goal

abbrev pub invariant-loop-waiting : goal.invariant-loop-waiting
invariant-loop-waiting l =
    l.frames ≡ map (held_by l.surface) (take l.waiting-index l.initial.frames) ++ drop l.waiting-index l.initial.frames
