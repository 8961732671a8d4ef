use Rattle.std.proofs.Common.{◌≡◌, ◌-◌, ◌<◌, ◌≤◌, ◌+ℤ◌, ℕ, pos, length, take}
use Rattle.wl_geom.specs.Edits.{is_held}
use Rattle.wl_geom.proofs.edits.count_held.Given as goal

-- at the points that are left open the changes below those that were looked at decide
abbrev pub invariant-loop-above : goal.invariant-loop-above
invariant-loop-above l = record {
  some : 1 ≤ l.open;
  within : l.open ≤ l.count;
  below : (i : ℕ) → i < l.open → is_held (l.x +ℤ pos i) l.y l.edits ≡ is_held (l.x +ℤ pos i) l.y (take (length l.edits - l.above) l.edits);
}
