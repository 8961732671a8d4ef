use Rattle.std.proofs.Common.{◌≡◌, ◌≤◌, ◌<◌, ◌+◌, suc, arith, ◌∙◌}
use Rattle.wl_paint.specs.Damage.{IsDamage, count_below, has}
use Rattle.wl_paint.proofs.Marks.{count_below-le, count_below-row}
use Rattle.wl_paint.proofs.damage.Damage.count.Given as given
use Rattle.wl_paint.proofs.damage.Damage.count.Goals as goal

-- the count of the row that was read
row_count : (g : given.Over) (c : goal.After-count-count g) → c.count-count.result ≡ count_below c.args.self.now.width (λ x. has c.args.self.now x c.loop-y.y)
row_count g c =
    let is : IsDamage c.args.self.now = rw (← c.self.view_is) c.self.invariant.0 in
    let low : c.loop-y.y < c.args.self.now.height = rw (← c.self.view_is) (omega arith) in
    c.count-count.ensures ∙ count_below-row c.args.self.now c.loop-y.y c.index.result.now is low (rw (← c.self.view_is) c.index.ensures)

-- it is at most 4,096
small_row : (g : given.Over) (c : goal.After-count-count g) → c.count-count.result ≤ 4096
small_row g c =
    let wide : c.args.self.now.width ≤ 4096 = rw (← c.self.view_is) c.self.invariant.0.wide in
    omega (arith, row_count g c, count_below-le c.args.self.now.width (λ x. has c.args.self.now x c.loop-y.y))

pub overflow_add-count : goal.overflow_add-count
overflow_add-count g c =
    let small = small_row g c in
    let high : c.loop-y.y ≤ 4096 = omega arith in
    omega (arith, small, high)

pub loop-y-preserved : goal.loop-y-preserved
loop-y-preserved g c =
    let row = row_count g c in
    let next : c.loop-y.y + 1 ≡ suc c.loop-y.y = omega arith in
    record {
      counted = rw (next, row, c.loop-y.invariant.counted) (omega arith);
      small = omega (arith, small_row g c);
    }
