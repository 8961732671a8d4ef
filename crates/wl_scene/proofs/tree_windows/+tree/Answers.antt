use Rattle.std.proofs.Common.{◌≡◌, ◌-◌, ◌∷◌, [], ◌++◌, ◌∙◌, suc, ap, sym, refl, flat_map, length, arith}
use Rattle.std.specs.Prelude.{vec_capacity, vec_len}
use Rattle.std.proofs.lemmas.List.{take_all}
use Rattle.std.proofs.lemmas.Result.{on_ok_weaker}
use Rattle.wl_surface.specs.Linked.{Stand}
use Rattle.spec_desktop.specs.Windows.{Owner}
use Rattle.wl_surface.specs.Surfaces.{Surfaces as Asked}
use Rattle.wl_scene.specs.TreeWindows.{place_beside, placed_windows, rooted, told_tree}
use Rattle.wl_scene.proofs.WindowsTrees.{continues-next, failed-not, more-behind, next-fits, same-fits, told-alone, told-hidden, told-nothing, told-stack}
use Rattle.wl_scene.proofs.tree_windows.+tree.Goals as goal

pub add_stack-loop-placed-preserved : goal.add_stack-loop-placed-preserved
add_stack-loop-placed-preserved g t c = record {
  told = λ all owner stand.
      more-behind (placed_windows (told_tree c.args.levels (rooted c.args.window.now.root owner) all) c.args.window.now) c.args.stack.now c.loop-placed.placed-index _ c.args.windows.now.items
      c.loop-placed.windows.items c.add_placed.new.windows.items c.loop-placed-test.true (c.loop-placed.invariant.told all owner stand)
      (c.in_ok-add_placed.ensures.ok all owner stand);
  more = continues-next c.args.windows.now.items c.loop-placed.windows.items c.add_placed.new.windows.items c.loop-placed.invariant.more c.add_placed.ensures.more;
  capacity = omega (arith, c.loop-placed.invariant.capacity, c.in_ok-add_placed.ensures.capacity);
}

pub add_stack-returns-clause-ok : goal.add_stack-returns-clause-ok
add_stack-returns-clause-ok g t c = λ all owner stand.
    c.loop-placed.invariant.told all owner stand
    ∙ ap (λ ps. c.args.windows.now.items ++ flat_map (placed_windows (told_tree c.args.levels (rooted c.args.window.now.root owner) all) c.args.window.now) ps)
    (take_all c.loop-placed.placed-index c.args.stack.now c.loop-placed-test.false)

pub add_tree-returns-then-levels-eq0-clause-ok : goal.add_tree-returns-then-levels-eq0-clause-ok
add_tree-returns-then-levels-eq0-clause-ok g t c = λ all owner stand.
    told-nothing c.args.levels (rooted c.args.spot.now.root owner) all c.args.surface (place_beside c.args.spot.now) c.args.windows.now.items c.if-levels-eq0.true

pub add_tree-returns-in_default-clause-ok : goal.add_tree-returns-in_default-clause-ok
add_tree-returns-in_default-clause-ok g t c = λ all owner stand.
    told-hidden c.args.levels (rooted c.args.spot.now.root owner) all c.args.surface (place_beside c.args.spot.now) c.window_of.result c.args.windows.now.items
    (c.window_of.ensures all stand) c.in_default.is

pub add_tree-returns-then-is_empty-clause-ok : goal.add_tree-returns-then-is_empty-clause-ok
add_tree-returns-then-is_empty-clause-ok g t c = λ all owner stand.
    let less : c.args.levels ≡ suc (c.args.levels - 1) = omega arith in
    told-alone c.args.surfaces.now.states c.args.surfaces.now.family all c.args.levels (c.args.levels - 1) (rooted c.args.spot.now.root owner) c.args.surface
    (place_beside c.args.spot.now) c.window_of.result c.in-Some.window c.stack-stack.result.now c.is_empty.result c.args.windows.now.items
    c.push.new.self.items stand less (c.window_of.ensures all stand) c.in-Some.is c.stack-stack.ensures.stack c.is_empty.ensures c.if-is_empty.true
    c.in_ok-push.ensures.items

pub add_tree-returns-clause-ok : goal.add_tree-returns-clause-ok
add_tree-returns-clause-ok g t c =
    let less : c.args.levels ≡ suc (c.args.levels - 1) = omega arith in
    let place = place_beside c.args.spot.now in
    on_ok_weaker
    {Q = (all : Asked) (owner : Owner) → Stand c.args.surfaces.now.states c.args.surfaces.now.family all
    → c.add_stack.new.windows.items ≡ c.args.windows.now.items ++ told_tree c.args.levels (rooted c.args.spot.now.root owner) all c.args.surface place}
    c.add_stack.result
    (λ told all owner stand.
    told-stack c.args.surfaces.now.states c.args.surfaces.now.family all c.args.levels (c.args.levels - 1) (rooted c.args.spot.now.root owner) c.args.surface place c.window_of.result
    c.in-Some.window c.stack-stack.result.now c.is_empty.result c.args.windows.now.items c.add_stack.new.windows.items stand less
    (c.window_of.ensures all stand) c.in-Some.is c.stack-stack.ensures.stack c.is_empty.ensures c.if-is_empty.false (told all owner stand))
    c.add_stack.ensures.ok

pub add_stack-returns-in_err-add_placed-clause-succeeds : goal.add_stack-returns-in_err-add_placed-clause-succeeds
add_stack-returns-in_err-add_placed-clause-succeeds g t c = λ all owner stand fits.
    let old : length c.args.windows.now.items ≡ vec_len c.args.windows.now = sym c.args.windows.now.ok.0 in
    next-fits (placed_windows (told_tree c.args.levels (rooted c.args.window.now.root owner) all) c.args.window.now) c.args.stack.now c.loop-placed.placed-index _
    c.args.windows.now.items c.loop-placed.windows.items (vec_capacity c.args.windows.now) (vec_capacity c.loop-placed.windows) c.loop-placed-test.true
    (c.loop-placed.invariant.told all owner stand) (omega arith) c.loop-placed.invariant.capacity
    (rw (c.loop-placed.windows.ok.0) at (c.in_err-add_placed.ensures.succeeds all owner stand))

pub add_tree-returns-in_err-push-clause-succeeds : goal.add_tree-returns-in_err-push-clause-succeeds
add_tree-returns-in_err-push-clause-succeeds g t c = λ all owner stand fits.
    let less : c.args.levels ≡ suc (c.args.levels - 1) = omega arith in
    let old : length c.args.windows.now.items ≡ vec_len c.args.windows.now = sym c.args.windows.now.ok.0 in
    let place = place_beside c.args.spot.now in
    let room = same-fits c.args.windows.now.items (c.in-Some.window ∷ []) (told_tree c.args.levels (rooted c.args.spot.now.root owner) all c.args.surface place) (vec_capacity c.args.windows.now)
    (told-alone c.args.surfaces.now.states c.args.surfaces.now.family all c.args.levels (c.args.levels - 1) (rooted c.args.spot.now.root owner) c.args.surface place c.window_of.result
    c.in-Some.window c.stack-stack.result.now c.is_empty.result c.args.windows.now.items (c.args.windows.now.items ++ c.in-Some.window ∷ []) stand less
    (c.window_of.ensures all stand) c.in-Some.is c.stack-stack.ensures.stack c.is_empty.ensures c.if-is_empty.true refl) (omega arith) in
    failed-not (c.in_err-push.ensures.succeeds (omega (arith, room)))

pub add_tree-returns-clause-succeeds : goal.add_tree-returns-clause-succeeds
add_tree-returns-clause-succeeds g t c = λ all owner stand fits.
    let less : c.args.levels ≡ suc (c.args.levels - 1) = omega arith in
    let old : length c.args.windows.now.items ≡ vec_len c.args.windows.now = sym c.args.windows.now.ok.0 in
    let place = place_beside c.args.spot.now in
    let more = flat_map (placed_windows (told_tree (c.args.levels - 1) (rooted c.in-Some.window.root owner) all) c.in-Some.window) c.stack-stack.result.now in
    let room = same-fits c.args.windows.now.items more (told_tree c.args.levels (rooted c.args.spot.now.root owner) all c.args.surface place) (vec_capacity c.args.windows.now)
    (told-stack c.args.surfaces.now.states c.args.surfaces.now.family all c.args.levels (c.args.levels - 1) (rooted c.args.spot.now.root owner) c.args.surface place c.window_of.result
    c.in-Some.window c.stack-stack.result.now c.is_empty.result c.args.windows.now.items (c.args.windows.now.items ++ more) stand less
    (c.window_of.ensures all stand) c.in-Some.is c.stack-stack.ensures.stack c.is_empty.ensures c.if-is_empty.false refl) (omega arith) in
    c.add_stack.ensures.succeeds all owner stand (omega (arith, room))
