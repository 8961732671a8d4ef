use Rattle.std.proofs.Common.{◌≡◌, length}
use Rattle.wl_program.specs.Pointing.{ReadsPointer}
use Rattle.wl_program.proofs.pointing.read_lines.Given as goal

-- the lines so far, as many as were counted
abbrev pub invariant-loop-before : goal.invariant-loop-before
invariant-loop-before g l = record {
  reads : ReadsPointer (g.R.Read.remaining l.fn.reader) l.lines.items (g.R.Read.remaining l.reader);
  count : length l.lines.items ≡ l.before;
}
