use Rattle.std.proofs.Common.{ℕ, List, ◌&&◌, not, cond, map, ap, sym, ◌∙◌, arith}
use Rattle.std.proofs.lemmas.List.{take_all}
use Rattle.wl_surface.specs.Kept.{buffer_of}
use Rattle.wl_surface.specs.Tree.{is_among, numbers_of}
use Rattle.wl_surface.proofs.TreeFreed.{among-added, among-more, next-added, next-busy, next-freed, number-all, number-at, number-less}
use Rattle.wl_surface.proofs.tree.add_freed.Goals as goal
use Rattle.wl_surface.proofs.tree.add_freed.Goals.{then-not-is_busy+then-not-has_number, else-not-is_busy}
use Rattle.wl_surface.proofs.tree.add_freed.Goals.{else-not-is_busy-via-then-not-is_busy+else-not-has_number, else-not-is_busy-via-else-not-is_busy}

pub loop-buffer-preserved : goal.loop-buffer-preserved
loop-buffer-preserved g c =
    let shown = numbers_of (map buffer_of c.args.shown.now) in
    let freed = c.loop-buffer.freed.items in
    let i = c.loop-buffer.buffer-index in
    let less = number-less c.args.shown.now i c.loop-buffer-test.true in
    let here = c.buffer-item.result.number in
    let is_here = number-at c.args.shown.now i c.buffer-item.result c.loop-buffer-test.true c.buffer-item.is in
    let busy = c.is_busy.result in
    elim c.if-not-is_busy.branch [
      | then-not-is_busy+then-not-has_number w ↦
          rw w.freed-is (record {
            len = omega (arith, w.push_reserved.ensures.len, c.loop-buffer.invariant.len);
            capacity = cc;
            counted = λ all stand.
                next-added all shown freed i 0 less here is_here busy (c.is_busy.ensures all stand) (c.loop-buffer.invariant.counted all stand) w.if-not-is_busy.true w.deref.result.now
                w.deref.ensures.value w.has_number.result w.has_number.ensures w.if-not-has_number.true w.push_reserved.new.self.items w.push_reserved.ensures.items;
            among = among-added shown freed i 0 less here is_here c.loop-buffer.invariant.among w.push_reserved.new.self.items w.push_reserved.ensures.items;
          })
      | else-not-is_busy w ↦ elim w.else-not-is_busy.branch [
        | else-not-is_busy-via-then-not-is_busy+else-not-has_number v ↦
            rw w.freed-is (record {
              len = omega (arith, c.loop-buffer.invariant.len);
              capacity = c.loop-buffer.invariant.capacity;
              counted = λ all stand.
                  next-freed all shown freed i 0 less here is_here busy (c.is_busy.ensures all stand) (c.loop-buffer.invariant.counted all stand) v.deref.result.now v.deref.ensures.value
                  v.has_number.result v.has_number.ensures v.if-not-has_number.false;
              among = λ number e. among-more shown freed i 0 less here is_here c.loop-buffer.invariant.among number e;
            })
        | else-not-is_busy-via-else-not-is_busy v ↦
            rw w.freed-is (record {
              len = omega (arith, c.loop-buffer.invariant.len);
              capacity = c.loop-buffer.invariant.capacity;
              counted = λ all stand.
                  next-busy all shown freed i 0 less here is_here busy (c.is_busy.ensures all stand) (c.loop-buffer.invariant.counted all stand) v.if-not-is_busy.false;
              among = λ number e. among-more shown freed i 0 less here is_here c.loop-buffer.invariant.among number e;
            })
      ]
    ]

pub returns-clause-counted : goal.returns-clause-counted
returns-clause-counted g c = λ all stand buffer is any.
    let shown = numbers_of (map buffer_of c.args.shown.now) in
    c.loop-buffer.invariant.counted all stand buffer is any
    ∙ ap (λ (ns : List ℕ). cond (is_among ns buffer && not is) 1 0) (take_all c.loop-buffer.buffer-index shown (number-all c.args.shown.now c.loop-buffer.buffer-index c.loop-buffer-test.false))

pub returns-clause-among : goal.returns-clause-among
returns-clause-among g c = λ number e.
    let shown = numbers_of (map buffer_of c.args.shown.now) in
    ap (λ (ns : List ℕ). is_among ns number) (sym (take_all c.loop-buffer.buffer-index shown (number-all c.args.shown.now c.loop-buffer.buffer-index c.loop-buffer-test.false)))
    ∙ c.loop-buffer.invariant.among number e
