use Rattle.std.proofs.Common.{◌≡◌, take}
use Rattle.wl_surface.specs.Waiting.{callbacks_of as those_of}
use Rattle.wl_surface.proofs.frames.callbacks_of.Given as goal

abbrev pub invariant-loop-waiting : goal.invariant-loop-waiting
invariant-loop-waiting g l = l.callbacks.items ≡ those_of l.surface (take l.waiting-index l.frames)
