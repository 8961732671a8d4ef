use Rattle.std.proofs.Common.{◌≤◌, ◌-◌, length, take}
use Rattle.std.specs.Io.KnownBytes.{Appends}
use Rattle.wl_recording.specs.Text.{hex_of}
use Rattle.wl_recording.proofs.report.write_hex.Given as goal

-- the digits of the bytes so far were written
abbrev pub invariant-loop-done : goal.invariant-loop-done
invariant-loop-done g l = record {
  some : l.done ≤ length l.bytes;
  written : Appends (g.W.Write.contents l.fn.writer) (g.W.Write.contents l.writer) (hex_of (take l.done l.bytes));
}

abbrev pub decreases-loop-done : goal.decreases-loop-done
decreases-loop-done g l = length l.bytes - l.done
