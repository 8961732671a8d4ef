use Rattle.wl_viewer.proofs.Joined.{JoinedTo}
use Rattle.wl_viewer.proofs.viewer.join.Given as goal

-- the rows above this one were joined
abbrev pub invariant-loop-y : goal.invariant-loop-y
invariant-loop-y g l = JoinedTo l.y l.damage l.fn.untold l.untold
