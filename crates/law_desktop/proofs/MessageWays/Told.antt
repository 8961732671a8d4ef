-- What a client is told of a message where nobody points, and what becomes of it then.
use Rattle.std.proofs.Common.{◌≡◌, ◌≤◌, ℕ, List, [], ◌∷◌, Bool, true, false, Option, Some, None, refl, ap, sym, subst, ◌∙◌, inl, inr, arith}
use Rattle.spec_desktop.specs.declared.cause.Cause.{Cause}
use Rattle.spec_desktop.specs.Peer.{Peer, Queues, has_room, queued}
use Rattle.spec_desktop.specs.Told.{Said}
use Rattle.wl_shell.specs.Popups.{is_toplevel}
use Rattle.wl_shell.specs.Shell.{Effect, Maps, Unmaps, xdg_of}
use Rattle.spec_desktop.specs.Pointer.{Pointer, first_pointer}
use Rattle.spec_desktop.specs.Windows.{Window}
use Rattle.spec_desktop.specs.Changing.{moving_from, stacked_by, stacked_for}
use Rattle.spec_desktop.specs.Demand.{Demand, CommitTree, Move}
use Rattle.spec_desktop.specs.Demanding.{effect_of_commit}
use Rattle.spec_desktop.specs.Desktop.{Desktop, Resident, client_at, with_client}
use Rattle.spec_desktop.specs.Settling.{QueuesFirst, QueuesTo, becomes}
use Rattle.spec_desktop.specs.Step.{with_peer}
use Rattle.law_desktop.proofs.Runs.Forms.{Becomes as StepBecomes, after_why}
use Rattle.law_desktop.proofs.EachClient.Clients.{IsPeerOf}
use Rattle.law_desktop.proofs.KeptRecords.Toplevels.Back.{settled-back, told-back}
use Rattle.law_desktop.proofs.KeptRecords.Toplevels.Serves.{IsDone as IsTold, after-same, becomes-same, by-pointer, ended_why}
use Rattle.law_desktop.specs.Ways.{Becomes}

-- ---- the pointer stays where it is, which is nowhere

pub by-still : (effect : Effect) (b : Bool) (c id : ℕ) (d : Desktop) → (stacked_by effect b c id d).pointer ≡ d.pointer
by-still Maps true c id d = refl
by-still Unmaps true c id d = refl
by-still effect b c id d = refl

-- nothing is held, so nothing is moved
pub moves-nothing : (c surface serial : ℕ) (windows : List Window) (p : Pointer) → p ≡ first_pointer → moving_from c surface serial windows p ≡ p
moves-nothing c surface serial windows p still = subst (λ (q : Pointer). moving_from c surface serial windows q ≡ q) (sym still) refl

pub stacked-still : (c : ℕ) (demand : Demand) (r : Resident) (windows : List Window) (d : Desktop) → d.pointer ≡ first_pointer → (stacked_for c demand r windows d).pointer ≡ first_pointer
stacked-still c (CommitTree id) r windows d still = by-still (effect_of_commit r id) (is_toplevel (xdg_of id r.owned.shell)) c id d ∙ still
stacked-still c (Move id serial) r windows d still = moves-nothing c id serial windows d.pointer still ∙ still
stacked-still c demand r windows d still = still

-- ---- what is told is settled at once

pub becomes-back : (Q : Peer → Type 0) (c : ℕ) (r : Resident) (d new : Desktop) → d.pointer ≡ first_pointer → StepBecomes Q c r d new → Becomes Q c r d new
becomes-back Q c r d new still h =
    let same = becomes-same c r h.0 d still in
    (h.0, h.1, settled-back (becomes c r h.0 d) new (ap (λ (e : Desktop). e.pointer) same ∙ by-pointer h.0.status c r h.0 d ∙ still) h.2 ∙ same)

pub done-back : (events : List Said) (c : ℕ) (made there : Resident) (d new : Desktop) → client_at c d ≡ Some there → d.pointer ≡ first_pointer → made.peer.status ≡ None
    → IsTold events c made d new → Becomes (Queues events made.peer) c made d new
done-back events c made there d new is still alive h =
    let same = after-same events c made there d is still alive h.0 h.1 h.2 in
    let last : Peer = ended_why h.1 h.0 in
    let after : Desktop = after_why h.1 c (with_client c (Some (with_peer h.0 made)) d) in (
      last,
      told-back events made.peer h.0 h.1 h.2,
      settled-back after new (ap (λ (e : Desktop). e.pointer) same ∙ by-pointer last.status c made last d ∙ still) h.3 ∙ same,
    )

-- ---- the peer that is told

-- no more of it changes than what waits to be sent, whether all of it was queued or not
abbrev IsHeard : Peer → Peer → Type 0
IsHeard p q = (bytes : List ℕ) × (q ≡ record p { unsent = bytes })

queues-heard : (events : List Said) (p q : Peer) (why : Option Cause) → QueuesTo events p q why → IsHeard p q
queues-heard [] p q why h = (p.unsent, h.0)
queues-heard (event ∷ events) p q why h = at (has_room p.unsent event) (queues-heard events (queued event p) q why) h
  where
    at : (b : Bool) → (QueuesTo events (queued event p) q why → IsHeard (queued event p) q)
        → QueuesFirst b (QueuesTo events (queued event p) q why) p q why → IsHeard p q
    at false later h = (p.unsent, h.0)
    at true later (inl h) = (p.unsent, h.0)
    at true later (inr h) = later h

le-same : (k n : ℕ) → n ≡ k → k ≤ n
le-same k n e = omega (arith, e)

pub told-peer : (events : List Said) (r : Resident) (q : Peer) (why : Option Cause) → QueuesTo events r.peer q why → IsPeerOf r q
told-peer events r q why told =
    let is = queues-heard events r.peer q why told in
    record {
      objects = ap (λ (p : Peer). p.objects) is.1;
      buffers = ap (λ (p : Peer). p.buffers) is.1;
      requests = le-same r.peer.requests q.requests (ap (λ (p : Peer). p.requests) is.1);
    }
