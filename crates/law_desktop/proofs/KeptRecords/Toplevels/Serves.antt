-- What becomes of a desktop where nobody points is its own change.
use Rattle.std.proofs.Common.{◌≡◌, ℕ, List, ◌∷◌, Bool, true, false, Option, Some, None, refl, ap, subst, sym, ◌∙◌, inl, inr, []}
use Rattle.spec_desktop.specs.declared.cause.Cause.{Cause}
use Rattle.spec_desktop.specs.declared.cause.Cause.TheVariants.{Memory, Slow}
use Rattle.spec_desktop.specs.Peer.{Peer, Queues, QueuesOr, ended, has_room, queued}
use Rattle.spec_desktop.specs.Told.{Said}
use Rattle.spec_desktop.specs.Pointer.{first_pointer}
use Rattle.spec_desktop.specs.Stacking.{without_client}
use Rattle.spec_desktop.specs.Changing.{with_kept_move}
use Rattle.spec_desktop.specs.Desktop.{Desktop, Resident, become, become_by, client_at, resident_of, with_client}
use Rattle.spec_desktop.specs.Settling.{EndsAndSettles, QueuesTo, after_status, becomes, ended_at, pointer_without, unstruck}
use Rattle.spec_desktop.specs.Step.{with_peer}
use Rattle.law_desktop.proofs.KeptRecords.Toplevels.Simply.{Becomes}
use Rattle.law_desktop.proofs.Runs.Forms.{after_why, Becomes as StepBecomes}
use Rattle.law_desktop.proofs.Runs.Places.{number-same, number-twice}
use Rattle.law_desktop.proofs.Runs.Ends.{queues-status}

-- ---- the pointer isn't anywhere

settled-plain : (d : Desktop) → EndsAndSettles (unstruck (record d { pointer = first_pointer })) (record d { pointer = first_pointer })
settled-plain d = (unstruck (record d { pointer = first_pointer }), refl, refl)

-- then the focus is settled at once
pub settles-to : (x y new : Desktop) → x ≡ y → new ≡ y → y.pointer ≡ first_pointer → EndsAndSettles (unstruck x) new
settles-to x y new first last still =
    let there : EndsAndSettles (unstruck y) y =
    subst (λ p. EndsAndSettles (unstruck (record y { pointer = p })) (record y { pointer = p })) (sym still) (settled-plain y) in
    let here : EndsAndSettles (unstruck x) y = subst (λ d. EndsAndSettles (unstruck d) y) (sym first) there in
    subst (λ d. EndsAndSettles (unstruck x) d) (sym last) here

pub by-pointer : (s : Option Cause) (c : ℕ) (r : Resident) (q : Peer) (d : Desktop) → (become_by s c r q d).pointer ≡ d.pointer
by-pointer None c r q d = refl
by-pointer (Some cause) c r q d = refl

after-still : (s : Option Cause) (c : ℕ) (d : Desktop) → d.pointer ≡ first_pointer → after_status s c d ≡ d
after-still None c d still = refl
after-still (Some cause) c d still = ap (λ p. record d { pointer = pointer_without c p }) still ∙ sym (ap (λ p. record d { pointer = p }) still)

pub becomes-same : (c : ℕ) (r : Resident) (q : Peer) (d : Desktop) → d.pointer ≡ first_pointer → becomes c r q d ≡ become c r q d
becomes-same c r q d still = after-still q.status c (become c r q d) (by-pointer q.status c r q d ∙ still)

-- what a client becomes is settled
pub becomes-whole : (Q : Peer → Type 0) (c : ℕ) (r : Resident) (d new : Desktop) → d.pointer ≡ first_pointer → Becomes Q c r d new → StepBecomes Q c r d new
becomes-whole Q c r d new still h =
    (h.0, h.1, settles-to (becomes c r h.0 d) (become c r h.0 d) new (becomes-same c r h.0 d still) h.2 (by-pointer h.0.status c r h.0 d ∙ still))

-- ---- what a client is told

abbrev pub ended_why : Option Cause → Peer → Peer
ended_why None q = q
ended_why (Some cause) q = ended cause q

abbrev IsToldTo : List Said → Peer → Peer → Type 0
IsToldTo events p q = (told : Peer) × (why : Option Cause) × QueuesTo events p told why × (q ≡ ended_why why told)

pub told-to : (events : List Said) (p q : Peer) → Queues events p q → IsToldTo events p q
told-to [] p q h = (p, None, (refl, refl), h)
told-to (event ∷ events) p q h = at (has_room p.unsent event) refl (told-to events (queued event p) q) h
  where
    at : (b : Bool) → has_room p.unsent event ≡ b → (Queues events (queued event p) q → IsToldTo events (queued event p) q) → QueuesOr b (Queues events (queued event p) q) p q
        → IsToldTo (event ∷ events) p q
    at false e later h = (p, Some Slow, rw e (refl, refl), h)
    at true e later (inl h) = (p, Some Memory, rw e (inl (refl, refl)), h)
    at true e later (inr h) = let k = later h in (k.0, k.1, rw e (inr k.2), k.3)

-- a client that lives is told, and ends where that isn't queued
abbrev pub IsDone : List Said → ℕ → Resident → Desktop → Desktop → Type 0
IsDone events c made d new =
    (q : Peer) × (why : Option Cause) × QueuesTo events made.peer q why × EndsAndSettles (unstruck (after_why why c (with_client c (Some (with_peer q made)) d))) new

-- what it becomes, and what is left of the desktop where it ends
pub after-same : (events : List Said) (c : ℕ) (made there : Resident) (d : Desktop) → client_at c d ≡ Some there → d.pointer ≡ first_pointer → made.peer.status ≡ None → (q : Peer) (why : Option Cause)
    → QueuesTo events made.peer q why
    → after_why why c (with_client c (Some (with_peer q made)) d) ≡ become c made (ended_why why q) d
after-same events c made there d is still alive q None told = sym (ap (λ s. become_by s c made q d) (queues-status events made.peer q None told ∙ alive))
after-same events c made there d is still alive q (Some cause) told =
    let now : Desktop = with_client c (Some (with_peer q made)) d in
    ap (λ o. ended_at c cause o now) (number-same d.clients c (Some (with_peer q made)) there is) ∙ becomes-same c (with_peer q made) (ended cause q) now still
    ∙ ap (λ clients. record d { clients = clients; standing = without_client c d.standing }) (number-twice d.clients c (Some (resident_of (ended cause q))) (Some (with_peer q made)))

pub is-done : (events : List Said) (c : ℕ) (made there : Resident) (d new : Desktop) → client_at c d ≡ Some there → d.pointer ≡ first_pointer → made.peer.status ≡ None
    → Becomes (Queues events made.peer) c made d new → IsDone events c made d new
is-done events c made there d new is still alive h =
    let k = told-to events made.peer h.0 h.1 in
    let last = become c made (ended_why k.1 k.0) d in (
      k.0,
      k.1,
      k.2,
      settles-to (after_why k.1 c (with_client c (Some (with_peer k.0 made)) d)) last new (after-same events c made there d is still alive k.0 k.1 k.2)
          (h.2 ∙ ap (λ q. become c made q d) k.3) (by-pointer (ended_why k.1 k.0).status c made (ended_why k.1 k.0) d ∙ still),
    )

-- ---- what is asked

pub kept-still : (d : Desktop) → d.pointer ≡ first_pointer → with_kept_move d ≡ d
kept-still d still = ap (λ p. with_kept_move (record d { pointer = p })) still ∙ sym (ap (λ p. record d { pointer = p }) still)
