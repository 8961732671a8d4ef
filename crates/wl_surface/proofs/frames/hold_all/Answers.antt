use Rattle.std.proofs.Common.{◌≡◌, ◌+◌, ◌++◌, ◌<◌, List, suc, ap, ◌∙◌, arith, rules, drop, length, map, take}
use Rattle.std.specs.Prelude.{slice_index_or, slice_set}
use Rattle.wl_surface.specs.declared.frames.Waiting.{Waiting}
use Rattle.wl_surface.specs.Waiting.{held_by}
use Rattle.wl_surface.proofs.Waiting.{mapped-set}
use Rattle.wl_surface.proofs.frames.hold_all.Goals as goal

pub loop-waiting-preserved : goal.loop-waiting-preserved
loop-waiting-preserved c =
    let i = c.loop-waiting.waiting-index in
    let by = held_by c.args.surface in
    let all = c.args.frames.now in
    let less : i < length all = search rules in
    let on : suc i ≡ i + 1 = omega arith in
    ap (λ w. slice_set c.loop-waiting.frames i w) c.held_by.ensures
    ∙ ap (λ (ws : List Waiting). slice_set ws i (by (slice_index_or ws i _))) c.loop-waiting.invariant
    ∙ mapped-set by all i _ less
    ∙ ap (λ n. map by (take n all) ++ drop n all) on
