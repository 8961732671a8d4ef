use Rattle.std.proofs.Common.{All, take}
use Rattle.wl_recording.specs.Lines.{InLine}
use Rattle.wl_recording.proofs.lines.end_of.Given as goal

abbrev pub invariant-loop-i : goal.invariant-loop-i
invariant-loop-i l = All InLine (take l.i l.bytes)
