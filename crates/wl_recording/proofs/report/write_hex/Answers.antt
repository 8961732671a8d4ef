use Rattle.std.proofs.Common.{arith, ◌≤◌}
use Rattle.std.proofs.KnownBytes.{Appends-trans}
use Rattle.wl_recording.proofs.Digits.{hex_of-chunk}
use Rattle.wl_recording.proofs.report.write_hex.Goals as goal

pub loop-done-preserved : goal.loop-done-preserved
loop-done-preserved g c =
    let order : c.loop-done.done ≤ c.min-end.result = omega arith in
    record {
      some = omega arith;
      written = rw (hex_of-chunk c.loop-done.done c.min-end.result c.args.bytes.now order)
          (Appends-trans _ _ _ _ _ c.loop-done.invariant.written c.in_ok-write_chunk.ensures);
    }
