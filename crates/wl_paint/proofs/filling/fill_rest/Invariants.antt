use Rattle.std.proofs.Common.{◌≡◌, ℕ, ◌<◌, ◌≤◌}
use Rattle.wl_paint.specs.Painting.{opaque, pixel_of}
use Rattle.wl_paint.proofs.filling.fill_rest.Given as goal

-- the pixels so far have the colour, and those before the first are as they were
abbrev pub invariant-loop-k : goal.invariant-loop-k
invariant-loop-k l = record {
  filled : (i : ℕ) → l.first ≤ i → i < l.k → pixel_of l.run i ≡ opaque l.color;
  before : (i : ℕ) → i < l.first → pixel_of l.run i ≡ pixel_of l.initial.run i;
}
