use Rattle.std.proofs.Common.{◌≡◌, ◌-◌, ◌++◌, ◌∙◌, suc, ap, sym, flat_map, arith}
use Rattle.std.proofs.lemmas.List.{take_all}
use Rattle.std.proofs.lemmas.Result.{on_ok_weaker}
use Rattle.wl_surface.specs.Linked.{Stand}
use Rattle.wl_surface.specs.Seen.{windows_at}
use Rattle.wl_surface.specs.Surfaces.{Surfaces as Asked}
use Rattle.wl_surface.specs.Whole.{windows}
use Rattle.wl_surface.proofs.Windows.{more-behind, none-behind, windows-alone, windows-hidden, windows-stack, windows-zero}
use Rattle.wl_surface.proofs.look.+windows.Goals as goal

pub add_stack-loop-placed-preserved : goal.add_stack-loop-placed-preserved
add_stack-loop-placed-preserved g t c = λ all stand.
    more-behind (windows_at c.args.levels all c.args.surface) c.args.stack.now c.loop-placed.placed-index _ c.args.order.now.items c.loop-placed.order.items
    c.add_placed.new.order.items c.loop-placed-test.true (c.loop-placed.invariant all stand) (c.in_ok-add_placed.ensures all stand)

pub add_stack-returns : goal.add_stack-returns
add_stack-returns g t c = λ all stand.
    c.loop-placed.invariant all stand
    ∙ ap (λ ps. c.args.order.now.items ++ flat_map (windows_at c.args.levels all c.args.surface) ps) (take_all c.loop-placed.placed-index c.args.stack.now c.loop-placed-test.false)

pub add_windows-returns-then-levels-eq0 : goal.add_windows-returns-then-levels-eq0
add_windows-returns-then-levels-eq0 g t c = λ all stand.
    none-behind c.args.order.now.items _ (windows-zero _ _ all stand c.args.levels c.args.surface c.if-levels-eq0.true)

pub add_windows-returns-then-not-is_shown : goal.add_windows-returns-then-not-is_shown
add_windows-returns-then-not-is_shown g t c = λ all stand.
    none-behind c.args.order.now.items _
    (windows-hidden _ _ all stand c.args.levels c.args.surface c.is_shown.result (c.is_shown.ensures _ stand.surfaces) c.if-not-is_shown.true)

pub add_windows-returns-then-is_empty : goal.add_windows-returns-then-is_empty
add_windows-returns-then-is_empty g t c = λ all stand.
    let less : c.args.levels ≡ suc (c.args.levels - 1) = omega arith in
    c.in_ok-push.ensures.items
    ∙ ap (λ ws. c.args.order.now.items ++ ws)
    (sym (windows-alone _ _ all stand c.args.levels c.args.surface (c.args.levels - 1) c.is_shown.result c.stack-stack.result.now c.is_empty.result less
    (c.is_shown.ensures _ stand.surfaces) c.if-not-is_shown.false c.stack-stack.ensures.stack c.is_empty.ensures c.if-is_empty.true))

pub add_windows-returns : goal.add_windows-returns
add_windows-returns g t c =
    let less : c.args.levels ≡ suc (c.args.levels - 1) = omega arith in
    on_ok_weaker
    {Q = (all : Asked) → Stand c.args.surfaces.now.states c.args.surfaces.now.family all
    → c.add_stack.new.order.items ≡ c.args.order.now.items ++ windows c.args.levels all c.args.surface}
    c.add_stack.result
    (λ told all stand.
    told all stand
    ∙ ap (λ ws. c.args.order.now.items ++ ws)
    (sym (windows-stack _ _ all stand c.args.levels c.args.surface (c.args.levels - 1) c.is_shown.result c.stack-stack.result.now c.is_empty.result less
    (c.is_shown.ensures _ stand.surfaces) c.if-not-is_shown.false c.stack-stack.ensures.stack c.is_empty.ensures c.if-is_empty.false)))
    c.add_stack.ensures
