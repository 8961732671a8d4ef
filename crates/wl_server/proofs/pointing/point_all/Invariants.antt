use Rattle.std.proofs.Common.{◌≡◌, length}
use Rattle.wl_server.specs.Acting.{Takes}
use Rattle.wl_server.specs.Due.{left_at}
use Rattle.wl_server.proofs.PointedLines.{PointedTo}
use Rattle.wl_server.proofs.pointing.point_all.Given as goal

-- the lines up to this one were due, and were taken
abbrev pub invariant-loop-line : goal.invariant-loop-line
invariant-loop-line g l = record {
  left : left_at l.time l.waiting ≡ left_at l.time l.fn.waiting;
  pointed : Takes g.R.Write.contents (PointedTo l.time l.fn.waiting l.waiting) l.fn.recorded l.recorded;
}

abbrev pub decreases-loop-line : goal.decreases-loop-line
decreases-loop-line g l = length l.waiting
