-- What is told to a client that lives on leaves its objects.
use Rattle.std.proofs.Common.{◌≡◌, List, ◌∷◌, Bool, true, false, None, ap, inl, inr, []}
use Rattle.spec_desktop.specs.Peer.{Peer, Queues, QueuesOr, has_room, queued}
use Rattle.spec_desktop.specs.Told.{Said}
use Rattle.law_desktop.proofs.EachClient.Told.{over}

-- what is told to one that lives on leaves it its objects
pub told-objects : (events : List Said) (p q : Peer) → Queues events p q → q.status ≡ None → q.objects ≡ p.objects
told-objects [] p q h alive = ap (λ (x : Peer). x.objects) h
told-objects (event ∷ events) p q h alive = at (has_room p.unsent event) (λ k. told-objects events (queued event p) q k alive) h
  where
    at : (b : Bool) → (Queues events (queued event p) q → q.objects ≡ p.objects) → QueuesOr b (Queues events (queued event p) q) p q → q.objects ≡ p.objects
    at false later e = absurd (over _ p q e alive)
    at true later (inl e) = absurd (over _ p q e alive)
    at true later (inr k) = later k
