use Rattle.std.proofs.Common.{arith, ap, ◌∙◌, ◌≡◌, ◌+ℤ◌, to_z, of_z, w32, w64}
use Rattle.std.proofs.lemmas.Int.{ints}
use Rattle.wl_surface.specs.State.{within_bounds}
use Rattle.wl_scene.proofs.tree_window.held_sum.Goals as goal

pub returns : goal.returns
returns c =
    let narrow : to_z w32 (of_z w32 c.held.result) ≡ c.held.result = omega (arith, ints) in
    let exact : to_z w64
    (of_z w64 (to_z w64 (of_z w64 (to_z w64 (of_z w64 c.from.result) +ℤ to_z w64 (of_z w64 c.from-2.result))) +ℤ to_z w64 (of_z w64 c.from-3.result)))
    ≡ c.args.corner +ℤ c.args.position +ℤ c.args.offset
    = omega (arith, ints) in
    narrow ∙ (c.held.ensures ∙ ap within_bounds exact)
