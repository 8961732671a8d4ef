use Rattle.std.specs.Prelude.{drop}
use Rattle.wl_server.proofs.Watched.{TakenTo}
use Rattle.wl_server.proofs.hearing.take_bytes.Given as goal

-- the bytes before this one were taken
abbrev pub invariant-loop-byte : goal.invariant-loop-byte
invariant-loop-byte g l = TakenTo g.R.Write.contents l.time l.bytes (drop l.byte-index l.bytes) l.fn.viewer l.viewer l.fn.recorded l.recorded
