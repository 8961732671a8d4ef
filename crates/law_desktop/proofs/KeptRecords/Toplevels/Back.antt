-- What is left of ends, of settling and of what is told where nobody points.
use Rattle.std.proofs.Common.{◌≡◌, List, ◌∷◌, Bool, true, false, Option, None, ap, subst, sym, ◌∙◌, inl, inr, []}
use Rattle.std.proofs.lemmas.Option.{none-some}
use Rattle.spec_desktop.specs.declared.cause.Cause.{Cause}
use Rattle.spec_desktop.specs.declared.cause.Cause.TheVariants.{Memory, Protocol, Slow}
use Rattle.spec_desktop.specs.declared.refusals.Refusal.{Refusal}
use Rattle.spec_desktop.specs.Peer.{Errs, LacksMemory, Peer, Queues, QueuesOr, ended, has_room, queued}
use Rattle.spec_desktop.specs.Told.{Said, code_number, error_told}
use Rattle.spec_desktop.specs.Pointer.{first_pointer}
use Rattle.spec_desktop.specs.Desktop.{Desktop}
use Rattle.spec_desktop.specs.Settling.{EndsAndSettles, EndsFirst, Midstep, QueuesFirst, QueuesTo, SettlesAll, unstruck}
use Rattle.law_desktop.proofs.KeptRecords.Toplevels.Serves.{ended_why}
use Rattle.law_desktop.proofs.EachClient.Told.{over}

-- ---- the pointer isn't anywhere, so nothing is settled

settled-plain : (d new : Desktop) → EndsAndSettles (unstruck (record d { pointer = first_pointer })) new → new ≡ record d { pointer = first_pointer }
settled-plain d new h = by h.0 h.1 h.2
  where
    by : (mid : Midstep) → mid ≡ unstruck (record d { pointer = first_pointer }) → EndsFirst (SettlesAll 32) mid.struck mid.desktop new → new ≡ record d { pointer = first_pointer }
    by mid e k = subst (λ (m : Midstep). EndsFirst (SettlesAll 32) m.struck m.desktop new) e k

pub settled-back : (y new : Desktop) → y.pointer ≡ first_pointer → EndsAndSettles (unstruck y) new → new ≡ y
settled-back y new still h =
    subst (λ p. EndsAndSettles (unstruck (record y { pointer = p })) new → new ≡ record y { pointer = p }) (sym still) (settled-plain y new) h

-- ---- what a client is told

pub told-back : (events : List Said) (p q : Peer) (why : Option Cause) → QueuesTo events p q why → Queues events p (ended_why why q)
told-back [] p q why h = ap (λ why. ended_why why q) h.1 ∙ h.0
told-back (event ∷ events) p q why h = at (has_room p.unsent event) (told-back events (queued event p) q why) h
  where
    at : (b : Bool) → (QueuesTo events (queued event p) q why → Queues events (queued event p) (ended_why why q)) → QueuesFirst b (QueuesTo events (queued event p) q why) p q why
        → QueuesOr b (Queues events (queued event p) (ended_why why q)) p (ended_why why q)
    at false later h = ap (λ why. ended_why why q) h.1 ∙ ap (ended Slow) h.0
    at true later (inl h) = inl (ap (λ why. ended_why why q) h.1 ∙ ap (ended Memory) h.0)
    at true later (inr h) = inr (later h)

-- ---- a message

pub erred : (refusal : Refusal) (p q : Peer) → Errs refusal p q → q.status ≡ None → ⊥
erred refusal p q h alive = at (has_room p.unsent (error_told refusal)) h
  where
    at : (b : Bool) → QueuesOr b (q ≡ ended (Protocol refusal.object (code_number refusal.code)) (queued (error_told refusal) p)) p q → ⊥
    at false e = over _ p q e alive
    at true (inl e) = over _ p q e alive
    at true (inr e) = over _ (queued (error_told refusal) p) q e alive

pub lacking : (p q : Peer) → LacksMemory p q → q.status ≡ None → ⊥
lacking p q (inl e) alive = over _ p q e alive
lacking p q (inr e) alive = none-some _ (sym alive ∙ ap (λ (x : Peer). x.status) e.1)
