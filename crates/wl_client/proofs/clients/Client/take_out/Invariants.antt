use Rattle.std.proofs.Common.{◌≡◌, ℕ, None, drop}
use Rattle.std.specs.List.{list_any}
use Rattle.std.specs.Prelude.{◌==◌, if◌then◌else◌}
use Rattle.wl_table.specs.Objects.{entry_of}
use Rattle.wl_client.specs.Agreement.{IsPeer}
use Rattle.spec_desktop.specs.Peer.{Peer, all_removed}
use Rattle.wl_client.proofs.clients.Client.take_out.Given as goal

-- what goes yet leads where all of it leads
abbrev pub invariant-loop-id : goal.invariant-loop-id
invariant-loop-id g l = record {
  left : (p : Peer) → IsPeer l.fn.self p → (mid : Peer) × IsPeer l.self mid × (all_removed (drop l.id-index l.ids) mid ≡ all_removed l.ids p);
  table : (other : ℕ) → (if list_any (λ id. other == id) (drop l.id-index l.ids) then None else entry_of l.self.objects other) ≡ (if list_any (λ id. other == id) l.ids then None else entry_of
      l.fn.self.objects other);
  rest : l.self.rest ≡ l.fn.self.rest;
}
