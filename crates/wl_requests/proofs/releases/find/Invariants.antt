use Rattle.std.proofs.Common.{◌≡◌, None, map, take}
use Rattle.std.specs.Prelude.{find}
use Rattle.wl_surface.specs.Kept.{buffer_of}
use Rattle.wl_requests.proofs.Letting.{has}
use Rattle.wl_requests.proofs.releases.find.Given as goal

-- none of those that were looked at has the number
abbrev pub invariant-loop-buffer : goal.invariant-loop-buffer
invariant-loop-buffer l = find (has l.number) (take l.buffer-index (map buffer_of l.shown)) ≡ None
