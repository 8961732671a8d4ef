use Rattle.std.proofs.Common.{◌≡◌, ◌-◌, ◌∙◌, suc, ap, sym, flat_map, fold, arith}
use Rattle.std.proofs.lemmas.List.{take_all}
use Rattle.wl_surface.specs.Seen.{met, windows_at}
use Rattle.wl_surface.proofs.Windows.{meets-more, windows-alone, windows-hidden, windows-stack, windows-zero}
use Rattle.wl_surface.proofs.seen.+meet.Goals as goal

pub meet_stack-loop-placed-preserved : goal.meet_stack-loop-placed-preserved
meet_stack-loop-placed-preserved g t c = λ all stand.
    meets-more (met c.args.order.now) c.args.count c.loop-placed.met c.meet_placed-met.result (windows_at c.args.levels all c.args.surface) c.args.stack.now
    c.loop-placed.placed-index _ c.loop-placed-test.true (c.loop-placed.invariant all stand) (c.meet_placed-met.ensures all stand)

pub meet_stack-returns : goal.meet_stack-returns
meet_stack-returns g t c = λ all stand.
    c.loop-placed.invariant all stand
    ∙ ap (λ ps. fold (met c.args.order.now) c.args.count (flat_map (windows_at c.args.levels all c.args.surface) ps))
    (take_all c.loop-placed.placed-index c.args.stack.now c.loop-placed-test.false)

pub meet_windows-returns-then-levels-eq0 : goal.meet_windows-returns-then-levels-eq0
meet_windows-returns-then-levels-eq0 g t c = λ all stand.
    sym (ap (fold (met c.args.order.now) c.args.count) (windows-zero _ _ all stand c.args.levels c.args.surface c.if-levels-eq0.true))

pub meet_windows-returns-then-not-is_shown : goal.meet_windows-returns-then-not-is_shown
meet_windows-returns-then-not-is_shown g t c = λ all stand.
    sym (ap (fold (met c.args.order.now) c.args.count)
    (windows-hidden _ _ all stand c.args.levels c.args.surface c.is_shown.result (c.is_shown.ensures _ stand.surfaces) c.if-not-is_shown.true))

pub meet_windows-returns-then-is_empty : goal.meet_windows-returns-then-is_empty
meet_windows-returns-then-is_empty g t c = λ all stand.
    let less : c.args.levels ≡ suc (c.args.levels - 1) = omega arith in
    c.meet.ensures
    ∙ sym (ap (fold (met c.args.order.now) c.args.count)
    (windows-alone _ _ all stand c.args.levels c.args.surface (c.args.levels - 1) c.is_shown.result c.stack-stack.result.now c.is_empty.result less
    (c.is_shown.ensures _ stand.surfaces) c.if-not-is_shown.false c.stack-stack.ensures.stack c.is_empty.ensures c.if-is_empty.true))

pub meet_windows-returns : goal.meet_windows-returns
meet_windows-returns g t c = λ all stand.
    let less : c.args.levels ≡ suc (c.args.levels - 1) = omega arith in
    c.meet_stack.ensures all stand
    ∙ sym (ap (fold (met c.args.order.now) c.args.count)
    (windows-stack _ _ all stand c.args.levels c.args.surface (c.args.levels - 1) c.is_shown.result c.stack-stack.result.now c.is_empty.result less
    (c.is_shown.ensures _ stand.surfaces) c.if-not-is_shown.false c.stack-stack.ensures.stack c.is_empty.ensures c.if-is_empty.false))
