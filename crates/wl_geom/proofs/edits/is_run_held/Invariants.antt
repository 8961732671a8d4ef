use Rattle.std.proofs.Common.{◌≡◌, ◌-◌, ◌<◌, ◌≤◌, ◌+ℤ◌, ℕ, true, pos}
use Rattle.wl_geom.specs.Edits.{is_held}
use Rattle.wl_geom.proofs.edits.is_run_held.Given as goal

abbrev pub invariant-loop-done : goal.invariant-loop-done
invariant-loop-done l = record {
  within : l.done ≤ l.count;
  held : (i : ℕ) → i < l.done → is_held (l.x +ℤ pos i) l.y l.edits ≡ true;
}

abbrev pub decreases-loop-done : goal.decreases-loop-done
decreases-loop-done l = l.count - l.done
