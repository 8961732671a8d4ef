use Rattle.std.proofs.Common.{arith, ap, ◌∙◌, ◌≡◌, ◌+ℤ◌, to_z, of_z, w32, w64}
use Rattle.std.proofs.lemmas.Int.{ints}
use Rattle.wl_surface.specs.State.{within_bounds}
use Rattle.wl_clients.proofs.screen.moving.moved.Goals as goal

pub returns : goal.returns
returns c =
    let narrow : to_z w32 (of_z w32 c.held-2.result) ≡ c.held-2.result = omega (arith, ints) in
    let exact : to_z w64 (of_z w64 (to_z w64 (of_z w64 c.from.result) +ℤ to_z w64 (of_z w64 c.args.by))) ≡ c.args.from +ℤ c.args.by = omega (arith, ints) in
    narrow ∙ (c.held-2.ensures ∙ ap within_bounds exact)
