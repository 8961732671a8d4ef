use Rattle.std.proofs.Common.{◌≡◌, ◌-◌, ◌<◌, suc, length, w32, to_z, of_z, arith}
use Rattle.std.proofs.lemmas.Int.{ints}
use Rattle.wl_scene.proofs.Hits.{below, hit-all, topmost}
use Rattle.wl_scene.proofs.hitting.hit.Goals as goal

pub loop-place-init : goal.loop-place-init
loop-place-init g c = λ numbers d are. hit-all _ _ _ numbers c.args.windows.now d are

pub returns-then-takes_input : goal.returns-then-takes_input
returns-then-takes_input g c = λ numbers d are.
    let less : c.loop-place.place - 1 < length c.args.windows.now = omega arith in
    let next : c.loop-place.place ≡ suc (c.loop-place.place - 1) = omega arith in
    let same-x : to_z w32 (of_z w32 c.args.x) ≡ c.args.x = omega (arith, ints) in
    let same-y : to_z w32 (of_z w32 c.args.y) ≡ c.args.y = omega (arith, ints) in
    topmost (to_z w32 (of_z w32 c.args.x)) (to_z w32 (of_z w32 c.args.y)) (g.S.Surfaced.slots c.args.clients.now) numbers c.args.windows.now d are _ (c.loop-place.place - 1) less
    c.loop-place.place next (c.loop-place.invariant numbers d are) _ c.takes_input.result c.surfaces.ensures c.takes_input.ensures c.if-takes_input.true c.args.x c.args.y same-x same-y

pub loop-place-preserved : goal.loop-place-preserved
loop-place-preserved g c = λ numbers d are.
    let less : c.loop-place.place - 1 < length c.args.windows.now = omega arith in
    let next : c.loop-place.place ≡ suc (c.loop-place.place - 1) = omega arith in
    below (to_z w32 (of_z w32 c.args.x)) (to_z w32 (of_z w32 c.args.y)) (g.S.Surfaced.slots c.args.clients.now) numbers c.args.windows.now d are _ (c.loop-place.place - 1) less
    c.loop-place.place next (c.loop-place.invariant numbers d are) _ c.takes_input.result c.surfaces.ensures c.takes_input.ensures c.if-takes_input.false
