use Rattle.std.proofs.Common.{◌≡◌, ◌*◌, take}
use Rattle.wl_recording.specs.Text.{hex_of}
use Rattle.wl_recording.proofs.report.spell.Given as goal

abbrev pub invariant-loop-i : goal.invariant-loop-i
invariant-loop-i l = take (2 * l.i) l.digits ≡ hex_of (take l.i l.bytes)
