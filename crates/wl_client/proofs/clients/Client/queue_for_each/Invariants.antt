use Rattle.std.proofs.Common.{◌≡◌, drop, Option}
use Rattle.spec_desktop.specs.declared.cause.Cause.{Cause}
use Rattle.spec_desktop.specs.Peer.{Peer, QueuesTo}
use Rattle.wl_client.specs.Agreement.{IsPeer}
use Rattle.wl_client.specs.Pointers.{pointers_told}
use Rattle.wl_client.proofs.clients.Client.queue_for_each.Given as goal

-- what is left to queue leads where all events lead
abbrev pub invariant-loop-pointer : goal.invariant-loop-pointer
invariant-loop-pointer g l = record {
  told : (p : Peer) → IsPeer l.fn.self p → (mid : Peer) × IsPeer l.self mid × ((q : Peer) (why : Option Cause)
      → QueuesTo (pointers_told l.event l.serial (drop l.pointer-index l.pointers)) mid q why → QueuesTo (pointers_told l.event l.serial l.pointers) p q why);
  only : l.self ≡ record l.fn.self { unsent = l.self.unsent };
}
