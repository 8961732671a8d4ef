use Rattle.std.proofs.Common.{◌≤ℤ◌, pos, rules}
use Rattle.std.specs.Prelude.{◌⊎◌}
use Rattle.wl_geom.specs.Rect.{in_rect}
use Rattle.wl_geom.proofs.Counts.{in_rect-empty, both-false}
use Rattle.wl_geom.proofs.rect.Rect.misses.Goals as goal

pub returns-then-is_empty-clause-apart : goal.returns-then-is_empty-clause-apart
returns-then-is_empty-clause-apart c empty x y =
    let other = c.args.other.now in
    let none : (other.w ≤ℤ pos 0) ⊎ (other.h ≤ℤ pos 0) = search rules in
    both-false (in_rect x y c.args.self.now) (in_rect x y other) (in_rect-empty x y other none)
