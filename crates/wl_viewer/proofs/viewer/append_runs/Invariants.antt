use Rattle.std.proofs.Common.{drop}
use Rattle.wl_viewer.proofs.Appended.{AppendedTo}
use Rattle.wl_viewer.proofs.viewer.append_runs.Given as goal

-- the runs before this one were appended
abbrev pub invariant-loop-run : goal.invariant-loop-run
invariant-loop-run g l = AppendedTo l.frame l.runs (drop l.run-index l.runs) l.fn.out.items l.out.items
