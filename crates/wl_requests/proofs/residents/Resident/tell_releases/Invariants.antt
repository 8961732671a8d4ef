use Rattle.std.proofs.Common.{◌≡◌, ◌≤◌, [], None, length, map, drop, true}
use Rattle.std.specs.Prelude.{is_some}
use Rattle.wl_client.specs.Agreement.{IsPeer}
use Rattle.wl_proto.specs.declared.interface.Interface.TheVariants.{WlBuffer}
use Rattle.spec_desktop.specs.Peer.{Peer}
use Rattle.spec_desktop.specs.Told.{said}
use Rattle.wl_proto.specs.Messages.{says}
use Rattle.wl_requests.proofs.Letting.{IsToldSo}
use Rattle.wl_requests.proofs.residents.Resident.tell_releases.Given as goal

-- the client was told of those before
abbrev pub invariant-loop-buffer : goal.invariant-loop-buffer
invariant-loop-buffer g l = record {
  table : l.self.client.ended ≡ None → l.self.client.objects ≡ l.fn.self.client.objects;
  told : (p : Peer) → IsPeer l.fn.self.client p → p.status ≡ None
      → (mid : Peer) × IsPeer l.self.client mid
      × IsToldSo (map (λ object. said object (says WlBuffer 0 [])) l.released) (map (λ object. said object (says WlBuffer 0 [])) (drop l.buffer-index l.released)) p mid;
  ended : is_some l.fn.self.client.ended ≡ true → l.self.client ≡ l.fn.self.client;
  owned : l.self.owned ≡ l.fn.self.owned;
  subsurfaces : l.self.subsurfaces ≡ l.fn.self.subsurfaces;
  rest : length l.self.client.rest ≤ length l.fn.self.client.rest;
}
