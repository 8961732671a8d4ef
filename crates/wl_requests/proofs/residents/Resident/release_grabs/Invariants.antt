use Rattle.std.proofs.Common.{◌≡◌}
use Rattle.wl_client.specs.Agreement.{IsPeer}
use Rattle.spec_desktop.specs.Peer.{Peer}
use Rattle.wl_shell.specs.InOrder.{HasOrder}
use Rattle.spec_desktop.specs.Stacking.{Owned}
use Rattle.wl_shell.specs.Kept.{kept_of}
use Rattle.law_desktop.specs.Owning.{IsOwned, Names}
use Rattle.wl_requests.proofs.PopupsReleased.{IsReleasedTo}
use Rattle.wl_requests.proofs.residents.Resident.release_grabs.Given as goal

-- so many were dismissed, and the client was told of them
abbrev pub invariant-loop : goal.invariant-loop
invariant-loop g l = record {
  told : (names : Names) (o : Owned) (p : Peer)
      → IsOwned names l.fn.self.owned.surfaces.states l.fn.self.owned.surfaces.family (kept_of l.fn.self.owned.shell) o
      → HasOrder o.shell → IsPeer l.fn.self.client p
      → IsReleasedTo names o l.counter p l.self;
  client : l.self.client ≡ record l.fn.self.client { unsent = l.self.client.unsent; refused = l.self.client.refused };
  surfaces : l.self.owned.surfaces ≡ l.fn.self.owned.surfaces;
  subsurfaces : l.self.subsurfaces ≡ l.fn.self.subsurfaces;
}
