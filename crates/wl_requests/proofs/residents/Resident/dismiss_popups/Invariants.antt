use Rattle.std.proofs.Common.{ℕ, ◌≡◌, ◌≤◌, None, Some, length, true}
use Rattle.std.specs.Prelude.{is_some}
use Rattle.wl_client.specs.Agreement.{IsPeer}
use Rattle.spec_desktop.specs.Peer.{Peer}
use Rattle.wl_shell.specs.InOrder.{HasOrder}
use Rattle.spec_desktop.specs.Stacking.{Owned}
use Rattle.wl_shell.specs.Kept.{kept_of}
use Rattle.law_desktop.specs.Owning.{IsOwned, Names}
use Rattle.wl_requests.proofs.PopupsDismissed.{IsDismissedTo}
use Rattle.wl_requests.proofs.residents.Resident.dismiss_popups.Given as goal

-- so many were dismissed, and the client was told of them
abbrev pub invariant-loop : goal.invariant-loop
invariant-loop g l = record {
  told : (names : Names) (o : Owned) (xdg : ℕ) (p : Peer)
      → IsOwned names l.fn.self.owned.surfaces.states l.fn.self.owned.surfaces.family (kept_of l.fn.self.owned.shell) o
      → HasOrder o.shell → names.shell xdg ≡ Some l.surface → IsPeer l.fn.self.client p → p.status ≡ None
      → IsDismissedTo names xdg o l.counter p l.self;
  table : l.self.client.ended ≡ None → l.self.client.objects ≡ l.fn.self.client.objects;
  ended : is_some l.fn.self.client.ended ≡ true → l.self.client ≡ l.fn.self.client;
  surfaces : l.self.owned.surfaces ≡ l.fn.self.owned.surfaces;
  subsurfaces : l.self.subsurfaces ≡ l.fn.self.subsurfaces;
  rest : length l.self.client.rest ≤ length l.fn.self.client.rest;
}
