use Rattle.std.proofs.Common.{◌≡◌, take}
use Rattle.wl_recording.proofs.differing.same_front.Given as goal

abbrev pub invariant-loop-i : goal.invariant-loop-i
invariant-loop-i l = take l.i l.bytes ≡ take l.i l.held
