use Rattle.std.proofs.Common.{◌≡◌, ◌≢◌, ◌<◌, ℕ, false, slice_index_or}
use Rattle.wl_store.specs.Kept.{Kept}
use Rattle.wl_store.proofs.stores.is_blank_beside.Given as goal

abbrev pub invariant-loop-k : goal.invariant-loop-k
invariant-loop-k g l = (k : ℕ) (d : Kept) → k < l.k → k ≢ l.place → (slice_index_or l.held k d).blank ≡ false
