use Rattle.std.proofs.Common.{◌≤◌, ◌-◌, ◌*◌}
use Rattle.wl_paint.specs.Damage.{has}
use Rattle.wl_paint.specs.Painting.{IsCopiedTo, pixel_of}
use Rattle.wl_paint.proofs.copying.copy_runs.Given as goal

-- the row is done up to `from`
abbrev pub invariant-loop-start : goal.invariant-loop-start
invariant-loop-start g l = record {
  bound : l.from ≤ l.columns.end;
  done : IsCopiedTo (pixel_of l.initial.pixels) (pixel_of l.pixels) (pixel_of l.stretch) (λ x. has l.damage x l.y) (l.y * l.damage.width) l.columns.first l.from;
}

abbrev pub decreases-loop-start : goal.decreases-loop-start
decreases-loop-start g l = l.columns.end - l.from
