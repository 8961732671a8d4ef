use Rattle.std.proofs.Common.{◌≢◌, ◌<◌, ℕ, None, Some, slice_index_or}
use Rattle.wl_links.proofs.subsurfaces.Subsurfaces.surface_of.Given as goal

abbrev pub invariant-loop-surface : goal.invariant-loop-surface
invariant-loop-surface g l = (other : ℕ) → other < l.surface → slice_index_or l.self-inside.ids.items other None ≢ Some l.id
