use Rattle.std.proofs.Common.{◌≡◌, ℕ, ◌<◌, ◌≤◌, ◌+◌, ◌*◌}
use Rattle.std.specs.Prelude.{slice_index}
use Rattle.wl_blend.proofs.run.is_opaque_rest.Given as goal

-- the pixels so far have the alpha 255
abbrev pub invariant-loop-k : goal.invariant-loop-k
invariant-loop-k l = (i : ℕ) → l.first ≤ i → i < l.k → slice_index l.src (4 * i + 3) ≡ 255
