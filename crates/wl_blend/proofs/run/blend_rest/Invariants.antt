use Rattle.std.proofs.Common.{◌≡◌, ℕ, ◌<◌, ◌≤◌, ◌+◌, ◌*◌}
use Rattle.std.specs.Prelude.{slice_index}
use Rattle.wl_store.specs.Layout.{argb_of}
use Rattle.wl_blend.specs.Blend.{blended, color_of}
use Rattle.wl_blend.proofs.run.blend_rest.Given as goal

-- the pixels so far are blended, and the others are as they were
abbrev pub invariant-loop-k : goal.invariant-loop-k
invariant-loop-k l = record {
  pixels : (i : ℕ) → l.first ≤ i → i < l.k → color_of l.dst i ≡ blended (color_of l.initial.dst i) (argb_of l.format l.src i);
  fourths : (i : ℕ) → l.first ≤ i → i < l.k → slice_index l.dst (4 * i + 3) ≡ 255;
  others : (i : ℕ) → l.k ≤ i → color_of l.dst i ≡ color_of l.initial.dst i;
  before : (i : ℕ) → i < l.first → color_of l.dst i ≡ color_of l.initial.dst i;
  before_fourths : (i : ℕ) → i < l.first → slice_index l.dst (4 * i + 3) ≡ slice_index l.initial.dst (4 * i + 3);
}
