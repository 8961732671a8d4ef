-- What a message leads to that queues nothing and moves nothing, with the pointer put aside: get_pointer and xdg_toplevel.move.
use Rattle.std.proofs.Common.{◌≡◌, ℕ, List, [], drop, take, Option, Some, None, Result, refl, ap, subst, sym, ◌∙◌, inl, inr}
use Rattle.std.proofs.lemmas.Option.{none-some, same_Some}
use Rattle.std.specs.Prelude.{◌-◌, ◌⊎◌, Ok, Err}
use Rattle.wl_wire.specs.Wire.{split_of}
use Rattle.wl_wire.specs.declared.header.Split.{Split}
use Rattle.wl_wire.specs.declared.header.Split.TheVariants.{Message as Whole, More, Bad}
use Rattle.spec_desktop.specs.declared.cause.Cause.{Cause}
use Rattle.spec_desktop.specs.declared.cause.Cause.TheVariants.{Memory}
use Rattle.spec_desktop.specs.declared.refusals.Refusal.{Refusal}
use Rattle.spec_desktop.specs.Peer.{LacksMemory, Peer, counted, with_rest}
use Rattle.spec_desktop.specs.Told.{Said}
use Rattle.spec_desktop.specs.Changing.{changed_for}
use Rattle.spec_desktop.specs.Demand.{Demand, GetPointer, Move}
use Rattle.spec_desktop.specs.Demanding.{judge_all}
use Rattle.spec_desktop.specs.Desktop.{Desktop, Resident, become_by, client_at, status_in, status_of, unpointed, with_client}
use Rattle.spec_desktop.specs.Happens.{AnswersThen, BecomesThen, DoesThen, ServesThen, TakesThen, WantsOrThen, changed_so, done_for, wants_memory}
use Rattle.spec_desktop.specs.Replies.{replies}
use Rattle.spec_desktop.specs.Settling.{QueuesTo, becomes}
use Rattle.spec_desktop.specs.Stacked.{all_windows}
use Rattle.spec_desktop.specs.Step.{with_peer}
use Rattle.spec_desktop.specs.Through.{ServesThrough, settling_through}
use Rattle.law_desktop.proofs.Runs.Places.{number-same, status-become}
use Rattle.law_desktop.specs.Pointed.Pointed.{asked, asked_by, asked_first, asked_of}
use Rattle.law_desktop.proofs.PointerAside.Entering.{told-alone}
use Rattle.law_desktop.proofs.PointerAside.Messages.{after-status, becomes-still, done-still}
use Rattle.law_desktop.proofs.PointerAside.Pointers.{settled-nowhere}
use Rattle.law_desktop.proofs.Runs.Serves.{lacking}

-- A client that is there and lives asked this, and it is done or runs out of memory.
pub record IsAsked (c : ℕ) (demand : Demand) (d : Desktop) (path : List Desktop) (e : Desktop) : Type 0 where
  pub there : Resident
  pub is : client_at c d ≡ Some there
  pub now : Resident
  pub lives : now.peer.status ≡ None
  pub does :
      WantsOrThen (wants_memory demand) (DoesThen c demand now (unpointed d) (settling_through path e)) c now (unpointed d)
      (settling_through path e)

module _ (c : ℕ) (demand : Demand) (d : Desktop) (path : List Desktop) (e : Desktop) (there : Resident) (is : client_at c d ≡ Some there) where
  answered : (judged : Result Demand Refusal) (r : Resident) → asked_of judged ≡ Some demand → r.peer.status ≡ None
      → AnswersThen judged c r (unpointed d) (settling_through path e) → IsAsked c demand d path e
  answered (Err refusal) r asks lives h = absurd (none-some demand asks)
  answered (Ok other) r asks lives h = record {
    there = there;
    is = is;
    now = with_peer (counted r.peer) r;
    lives = lives;
    does = subst (λ (x : Demand). AnswersThen (Ok x) c r (unpointed d) (settling_through path e)) (same_Some other demand asks) h;
  }

  took : (split : Split) (r : Resident) → asked_first split r ≡ Some demand → r.peer.status ≡ None → TakesThen split c r (unpointed d) (settling_through path e)
      → IsAsked c demand d path e
  took (Whole object opcode size) r asks lives h =
      answered (judge_all r object opcode (take (size - 8) (drop 8 r.peer.rest))) (with_peer (with_rest (drop size r.peer.rest) r.peer) r) asks lives h
  took Bad r asks lives h = absurd (none-some demand asks)
  took More r asks lives h = absurd (none-some demand asks)

pub is-asked : (c : ℕ) (demand : Demand) (d : Desktop) (path : List Desktop) (e : Desktop) → asked c d ≡ Some demand → ServesThrough c (unpointed d) path e
    → IsAsked c demand d path e
is-asked c demand d path e asks h = at (client_at c d) refl h
  where
    at : (o : Option Resident) → client_at c d ≡ o → ServesThen c o (unpointed d) (settling_through path e) → IsAsked c demand d path e
    at None is h = absurd h
    at (Some r) is h = took c demand d path e r is (split_of r.peer.rest) r (sym (ap asked_by is) ∙ asks) h.0 h.1

-- ---- where nothing is queued

module _ (c : ℕ) (demand : Demand) (d : Desktop) (path : List Desktop) (e : Desktop) (r : Resident) where
  abbrev drawn : Resident
  drawn = changed_for c demand r (unpointed d)

  -- the desktop is what the change makes of it
  pub done-so : replies c demand r drawn (all_windows (unpointed d)) (unpointed d) ≡ [] → DoesThen c demand r (unpointed d) (settling_through path e)
      → (q : Peer) × (q ≡ drawn.peer) × (e ≡ with_client c (Some (with_peer q drawn)) (done_for c demand r (unpointed d)))
  done-so none h =
      let queued : QueuesTo [] drawn.peer h.0 h.1 = subst (λ (events : List Said). QueuesTo events drawn.peer h.0 h.1) none h.2 in
      let settles : settling_through path e (changed_so c demand r (unpointed d) h.0 None) =
      subst (λ (why : Option Cause). settling_through path e (changed_so c demand r (unpointed d) h.0 why)) queued.1 h.3 in
      let over = settled-nowhere 32 (with_client c (Some (with_peer h.0 drawn)) (done_for c demand r (unpointed d))) e settles.0 (done-still c demand r d) settles.2 in
      (h.0, queued.0, over.0)

-- ---- xdg_toplevel.move

-- A client that asks to move a toplevel lives after it: nothing is queued, and no memory is wanted.
pub move-lives : (c surface serial : ℕ) (d : Desktop) (path : List Desktop) (e : Desktop) → asked c d ≡ Some (Move surface serial)
    → ServesThrough c (unpointed d) path e → status_in c e ≡ None
move-lives c surface serial d path e asks h =
    let it = is-asked c (Move surface serial) d path e asks h in
    let done = done-so c (Move surface serial) d path e it.now (told-alone [] it.now it.now refl) it.does in
    ap (status_in c) done.2 ∙ ap status_of (number-same d.clients c (Some (with_peer done.0 it.now)) it.there it.is) ∙ ap (λ (p : Peer). p.status) done.1 ∙ it.lives

-- ---- wl_seat.get_pointer

-- A client that gets a wl_pointer, and lives on, leaves the toplevels that stand.
pub get-stands : (c id version : ℕ) (d : Desktop) (path : List Desktop) (e : Desktop) → asked c d ≡ Some (GetPointer id version)
    → ServesThrough c (unpointed d) path e → status_in c e ≡ None → e.standing ≡ d.standing
get-stands c id version d path e asks h lives = by (it.does)
  where
    it : IsAsked c (GetPointer id version) d path e
    it = is-asked c (GetPointer id version) d path e asks h

    lacked : BecomesThen (LacksMemory it.now.peer) c it.now (unpointed d) (settling_through path e) → e.standing ≡ d.standing
    lacked h =
        let q : Peer = h.0 in
        let over = settled-nowhere 32 (becomes c it.now q (unpointed d)) e h.2.0 (becomes-still q.status c it.now q d) h.2.2 in
        let ended : status_in c e ≡ Some Memory =
        ap (status_in c) over.0 ∙ after-status q.status c (become_by q.status c it.now q (unpointed d)) ∙ status-become c it.now q (unpointed d) it.there it.is ∙ lacking it.now.peer q h.1 in
        absurd (none-some Memory (sym lives ∙ ended))

    did : DoesThen c (GetPointer id version) it.now (unpointed d) (settling_through path e) → e.standing ≡ d.standing
    did h =
        let done = done-so c (GetPointer id version) d path e it.now
        (told-alone [] it.now (changed_for c (GetPointer id version) it.now (unpointed d)) refl) h in
        ap (λ (x : Desktop). x.standing) done.2

    by : BecomesThen (LacksMemory it.now.peer) c it.now (unpointed d) (settling_through path e)
        ⊎ DoesThen c (GetPointer id version) it.now (unpointed d) (settling_through path e) → e.standing ≡ d.standing
    by (inl h) = lacked h
    by (inr h) = did h
