use Rattle.std.proofs.Common.{◌≡◌, ℕ, ◌<◌, ◌≤◌, ◌+◌, ◌*◌}
use Rattle.std.specs.Prelude.{slice_index}
use Rattle.wl_store.specs.Layout.{argb_of}
use Rattle.wl_blend.specs.Blend.{blended, color_of}
use Rattle.wl_blend.proofs.run.blend_run.Given as goal

-- the pixels so far are blended, and the others are as they were
abbrev pub invariant-loop-i : goal.invariant-loop-i
invariant-loop-i l = record {
  pixels : (k : ℕ) → k < 4 * l.i → color_of l.dst k ≡ blended (color_of l.initial.dst k) (argb_of l.format l.src k);
  fourths : (k : ℕ) → k < 4 * l.i → slice_index l.dst (4 * k + 3) ≡ 255;
  others : (k : ℕ) → 4 * l.i ≤ k → color_of l.dst k ≡ color_of l.initial.dst k;
}
