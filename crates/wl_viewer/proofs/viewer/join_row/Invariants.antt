use Rattle.std.proofs.Common.{◌-◌}
use Rattle.wl_viewer.proofs.Joined.{RowTo}
use Rattle.wl_viewer.proofs.viewer.join_row.Given as goal

-- the row's points before this column were joined
abbrev pub invariant-loop-x : goal.invariant-loop-x
invariant-loop-x g l = RowTo l.y l.from l.damage l.fn.untold l.untold

abbrev pub decreases-loop-x : goal.decreases-loop-x
decreases-loop-x g l = l.damage.width - l.from
