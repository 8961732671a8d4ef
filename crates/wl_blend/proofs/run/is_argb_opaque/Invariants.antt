use Rattle.std.proofs.Common.{◌≡◌, ℕ, ◌<◌, ◌+◌, ◌*◌}
use Rattle.std.specs.Prelude.{slice_index}
use Rattle.wl_blend.proofs.run.is_argb_opaque.Given as goal

-- the pixels so far have the alpha 255
abbrev pub invariant-loop-i : goal.invariant-loop-i
invariant-loop-i l = (k : ℕ) → k < 4 * l.i → slice_index l.src (4 * k + 3) ≡ 255
