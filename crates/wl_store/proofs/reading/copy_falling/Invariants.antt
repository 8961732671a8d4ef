use Rattle.std.proofs.Common.{◌≡◌, ℕ, ◌<◌, ◌+◌, ◌-◌, ◌*◌}
use Rattle.std.specs.Prelude.{slice_index}
use Rattle.wl_store.proofs.reading.copy_falling.Given as goal

-- the pixels so far are those of their places
abbrev pub invariant-loop-k : goal.invariant-loop-k
invariant-loop-k l = (m b : ℕ) → m < l.k → b < 4 → slice_index l.run (4 * m + b) ≡ slice_index l.bytes (l.first - m * l.step + b)
