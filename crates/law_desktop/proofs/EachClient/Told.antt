-- What is told to a client that lives on changes no more of it than what waits to be sent.
use Rattle.std.proofs.Common.{◌≡◌, ℕ, List, [], ◌∷◌, Bool, true, false, None, ap, sym, ◌∙◌, inl, inr}
use Rattle.std.proofs.lemmas.Option.{none-some}
use Rattle.spec_desktop.specs.declared.cause.Cause.{Cause}
use Rattle.spec_desktop.specs.Peer.{Peer, Queues, QueuesOr, ended, has_room, queued}
use Rattle.spec_desktop.specs.Told.{Said}

pub over : (cause : Cause) (p q : Peer) → q ≡ ended cause p → q.status ≡ None → ⊥
over cause p q e alive = none-some cause (sym alive ∙ ap (λ (x : Peer). x.status) e)

abbrev IsTold : Peer → Peer → Type 0
IsTold p q = (bytes : List ℕ) × (q ≡ record p { unsent = bytes })

pub told-peer : (events : List Said) (p q : Peer) → Queues events p q → q.status ≡ None → IsTold p q
told-peer [] p q h alive = (p.unsent, h)
told-peer (event ∷ events) p q h alive = at (has_room p.unsent event) (λ k. told-peer events (queued event p) q k alive) h
  where
    at : (b : Bool) → (Queues events (queued event p) q → IsTold (queued event p) q) → QueuesOr b (Queues events (queued event p) q) p q → IsTold p q
    at false later e = absurd (over _ p q e alive)
    at true later (inl e) = absurd (over _ p q e alive)
    at true later (inr k) = later k
