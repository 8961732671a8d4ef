use Rattle.std.proofs.Common.{◌≤◌, ◌-◌}
use Rattle.wl_paint.specs.Damage.{has}
use Rattle.wl_session.specs.Run.{AreRuns}
use Rattle.wl_session.proofs.Reported.{RowTo}
use Rattle.wl_session.proofs.sessions.append_runs.Given as goal

-- the row's runs up to `from` are appended
abbrev pub invariant-loop-x : goal.invariant-loop-x
invariant-loop-x g l = record {
  bound : l.from ≤ l.damage.width;
  runs : AreRuns l.damage.width l.y (has l.damage) l.initial.runs.items → RowTo l.runs.items (has l.damage) l.damage.width l.y l.from;
}

abbrev pub decreases-loop-x : goal.decreases-loop-x
decreases-loop-x g l = l.damage.width - l.from
