use Rattle.std.proofs.Common.{◌≡◌, ◌*ℤ◌, pos, w32, to_z, of_z, arith}
use Rattle.std.proofs.lemmas.Int.{ints}
use Rattle.wl_scene.proofs.coordinates.fixed.Goals as goal

pub overflow_mul-result : goal.overflow_mul-result
overflow_mul-result c = omega (arith, ints)

pub returns : goal.returns
returns c =
    let told = c.held.ensures.is c.args.place c.args.corner (omega (arith, ints)) in
    let exact : to_z w32 (of_z w32 (to_z w32 (of_z w32 c.held.result) *ℤ pos 256)) ≡ c.held.result *ℤ pos 256 = omega (arith, ints) in
    rw exact told
