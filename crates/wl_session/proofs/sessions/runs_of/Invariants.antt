use Rattle.wl_paint.specs.Damage.{has}
use Rattle.wl_session.specs.Run.{AreRuns}
use Rattle.wl_session.proofs.sessions.runs_of.Given as goal

-- the runs of the rows so far
abbrev pub invariant-loop-y : goal.invariant-loop-y
invariant-loop-y g l = AreRuns l.damage.width l.y (has l.damage) l.runs.items
