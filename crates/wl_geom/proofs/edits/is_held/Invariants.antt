use Rattle.std.proofs.Common.{◌≡◌, ◌-◌, length, take}
use Rattle.wl_geom.specs.Edits.{is_held}
use Rattle.wl_geom.proofs.edits.is_held.Given as goal

-- the changes below those that were looked at decide
abbrev pub invariant-loop-above : goal.invariant-loop-above
invariant-loop-above l = is_held l.x l.y l.edits ≡ is_held l.x l.y (take (length l.edits - l.above) l.edits)
