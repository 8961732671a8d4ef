use Rattle.std.proofs.Common.{◌≡◌, drop, length, map, ◌≤◌}
use Rattle.spec_desktop.specs.Peer.{Peer, Queues}
use Rattle.wl_client.specs.Agreement.{IsPeer}
use Rattle.wl_client.specs.Said.{said_of}
use Rattle.wl_client.proofs.clients.Client.queue_all.Given as goal

-- what is left to queue leads where all events lead
abbrev pub invariant-loop-event : goal.invariant-loop-event
invariant-loop-event g l = record {
  told : (p : Peer) → IsPeer l.fn.self p → (mid : Peer) × IsPeer l.self mid × ((q : Peer) → Queues (map said_of (drop l.event-index l.events)) mid q → Queues (map said_of l.events) p q);
  rest : length l.self.rest ≤ length l.fn.self.rest;
  table : l.self.objects ≡ l.fn.self.objects;
}
