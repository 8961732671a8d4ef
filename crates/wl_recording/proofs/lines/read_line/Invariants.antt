use Rattle.std.proofs.Common.{◌≤◌, All, vec_len}
use Rattle.std.specs.Io.KnownBytes.{Consumes}
use Rattle.wl_recording.specs.Lines.{InLine}
use Rattle.wl_recording.proofs.lines.read_line.Given as goal

-- the bytes that were taken are the line so far
abbrev pub invariant-loop : goal.invariant-loop
invariant-loop g l = record {
  taken : Consumes (g.R.Read.remaining l.fn.reader) (g.R.Read.remaining l.reader) l.line.items;
  plain : All InLine l.line.items;
  bound : vec_len l.line ≤ 140000;
}
