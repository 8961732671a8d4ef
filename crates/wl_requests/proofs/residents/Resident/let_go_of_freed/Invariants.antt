use Rattle.std.proofs.Common.{◌≡◌, ℕ, map, take}
use Rattle.wl_client.specs.Agreement.{IsPeer}
use Rattle.law_desktop.specs.Freed.{freed_of}
use Rattle.law_desktop.specs.Owning.{AreKept}
use Rattle.spec_desktop.specs.Objects.{ById}
use Rattle.spec_desktop.specs.Desktop.{Resident}
use Rattle.wl_surface.specs.Kept.{buffer_of}
use Rattle.wl_requests.proofs.Letting.{gone_of}
use Rattle.wl_requests.proofs.residents.Resident.let_go_of_freed.Given as goal

-- the stores of those that were looked at have gone, where they are over
abbrev pub invariant-loop-number : goal.invariant-loop-number
invariant-loop-number g l = record {
  stores : (r : Resident) (numbers : ById ℕ) → IsPeer l.fn.self.client r.peer
      → AreKept numbers l.fn.self.owned.surfaces.states l.fn.self.owned.surfaces.family r.owned.surfaces
      → IsPeer l.self.client (gone_of (freed_of (take l.number-index l.freed) (map buffer_of l.shown)) r).peer;
  only : l.self.client ≡ record l.fn.self.client { stores = l.self.client.stores };
  owned : l.self.owned ≡ l.fn.self.owned;
  subsurfaces : l.self.subsurfaces ≡ l.fn.self.subsurfaces;
}
