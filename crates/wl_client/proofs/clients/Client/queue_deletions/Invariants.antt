use Rattle.std.proofs.Common.{◌≡◌, ◌++◌, List, drop, length, map, ◌≤◌}
use Rattle.wl_client.specs.Agreement.{IsPeer}
use Rattle.spec_desktop.specs.Peer.{Peer, Queues}
use Rattle.spec_desktop.specs.Told.{Said, id_deleted}
use Rattle.wl_client.proofs.clients.Client.queue_deletions.Given as goal

-- what is left to queue leads where all events lead
abbrev pub invariant-loop-id : goal.invariant-loop-id
invariant-loop-id g l = record {
  told : (p : Peer) → IsPeer l.fn.self p → (mid : Peer) × IsPeer l.self mid × ((more : List Said) (q : Peer) → Queues (map id_deleted (drop l.id-index l.ids) ++ more) mid q
      → Queues (map id_deleted l.ids ++ more) p q);
  rest : length l.self.rest ≤ length l.fn.self.rest;
  table : l.self.objects ≡ l.fn.self.objects;
}
