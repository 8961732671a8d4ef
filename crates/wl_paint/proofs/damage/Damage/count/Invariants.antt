use Rattle.std.proofs.Common.{◌≡◌, ◌≤◌, ◌*◌}
use Rattle.wl_paint.specs.Damage.{has, count_points}
use Rattle.wl_paint.proofs.damage.Damage.count.Given as goal

abbrev pub invariant-loop-y : goal.invariant-loop-y
invariant-loop-y g l = record {
  counted : l.count ≡ count_points l.self.width l.y (has l.self);
  small : l.count ≤ 4096 * l.y;
}
