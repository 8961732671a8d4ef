-- What every client keeps by itself, all keep through each step that leaves the pointer alone, and through each message by itself.
use Rattle.std.proofs.Common.{◌≡◌, ◌≢◌, ◌≤◌, ℕ, zero, suc, ◌+◌, ◌-◌, List, ◌++◌, length, Bool, true, false, Option, Some, None, drop, take, refl, ap, subst, sym, ◌∙◌, inl, inr, arith}
use Rattle.std.proofs.lemmas.Option.{none-some, same_Some}
use Rattle.std.specs.Prelude.{Result, Ok, Err, nat_le, if◌then◌else◌, not}
use Rattle.wl_wire.specs.Wire.{split_of}
use Rattle.wl_wire.specs.declared.header.Split.{Split}
use Rattle.wl_wire.specs.declared.header.Split.TheVariants.{Message, More, Bad}
use Rattle.wl_store.specs.Stores.{write_refusal}
use Rattle.wl_store.specs.declared.stores.StoreError.{StoreError}
use Rattle.spec_desktop.specs.declared.cause.Cause.{Cause}
use Rattle.spec_desktop.specs.declared.cause.Cause.TheVariants.{Gone, Memory}
use Rattle.spec_desktop.specs.declared.refusals.ErrorCode.TheVariants.{InvalidMethod}
use Rattle.spec_desktop.specs.declared.refusals.Refusal.{Refusal}
use Rattle.spec_desktop.specs.Peer.{Errs, LacksMemory, Peer, Queues, counted, ended, sent_by, stored_at, stored_by, with_rest}
use Rattle.spec_desktop.specs.Told.{Said, display_error}
use Rattle.wl_shell.specs.Shell.{Effect, Maps, Unmaps, xdg_of}
use Rattle.wl_shell.specs.Popups.{is_toplevel}
use Rattle.spec_desktop.specs.Pointer.{first_pointer}
use Rattle.spec_desktop.specs.Stacking.{Standing, is_of}
use Rattle.spec_desktop.specs.Windows.{Window}
use Rattle.spec_desktop.specs.declared.answers.Done.{Done}
use Rattle.spec_desktop.specs.Act.{Act, IsClosed, IsSent, IsStored, Connect, Feed, Store, Leave, Tick, Send, Close, closed_by, lowest}
use Rattle.spec_desktop.specs.Changing.{changed_for, stacked_by, stacked_for}
use Rattle.spec_desktop.specs.Demand.{Demand, CommitTree, EndToplevel}
use Rattle.spec_desktop.specs.Demanding.{effect_of_commit, judge_all}
use Rattle.spec_desktop.specs.Desktop.{Desktop, Resident, arrival, become, client_at, client_in, toplevels_of, with_client}
use Rattle.spec_desktop.specs.Framing.{FramesTold, FramesToldAt, FramesToldBy, done_due}
use Rattle.spec_desktop.specs.Happens.{FeedsAt, Happens, IsFedAt, Reaches, Serves, StopsAt, done_for, frames_told, wants_memory}
use Rattle.spec_desktop.specs.Replies.{replies}
use Rattle.spec_desktop.specs.Settling.{EndsAndSettles, becomes, unstruck}
use Rattle.spec_desktop.specs.Stacked.{all_windows}
use Rattle.spec_desktop.specs.Step.{with_peer}
use Rattle.law_desktop.proofs.Isolation.Others.{left_out, on_top, one_surface}
use Rattle.law_desktop.proofs.Runs.Forms.{after_why, Answers, Becomes as StepBecomes, ChangesAt, ConnectsAt, Does, LeavesAt, ServesAt, Takes, WantsOr}
use Rattle.law_desktop.proofs.Runs.Places.{number-same}
use Rattle.law_desktop.proofs.Runs.Serves.{done-clients_stay}
use Rattle.law_desktop.proofs.Runs.Stays.{sent-status, stored-status}
use Rattle.law_desktop.proofs.Soundness.RunSteady.{changed-steady}
use Rattle.law_desktop.specs.Acts.{LeavesPointer}
use Rattle.law_desktop.specs.Simple.{Becomes}
use Rattle.law_desktop.proofs.KeptRecords.Marks.Framing.{told-shows}
use Rattle.law_desktop.proofs.KeptRecords.Toplevels.Back.{erred, lacking, settled-back, told-back}
use Rattle.law_desktop.proofs.KeptRecords.Toplevels.Serves.{IsDone, after-same, becomes-same, by-pointer, ended_why, kept-still}
use Rattle.law_desktop.proofs.EachClient.Clients.{AllAre, AreOthers, At, IsKept, IsPeerOf, become-all, comes-at, ends-all, known-by, lives-there, others-of, others-so, settled-all, with-all}
use Rattle.law_desktop.proofs.EachClient.Told.{told-peer}
use Rattle.law_desktop.proofs.MessageWays.Told.{stacked-still}

-- ---- the client's peer

le-same : (k n : ℕ) → n ≡ k → k ≤ n
le-same k n e = omega (arith, e)

-- what is told to it changes nothing that is looked at
pub told-is : (events : List Said) (r : Resident) (q : Peer) → Queues events r.peer q → q.status ≡ None → IsPeerOf r q
told-is events r q told alive =
    let is = told-peer events r.peer q told alive in
    record {
      objects = ap (λ (p : Peer). p.objects) is.1;
      buffers = ap (λ (p : Peer). p.buffers) is.1;
      requests = le-same r.peer.requests q.requests (ap (λ (p : Peer). p.requests) is.1);
    }

pub kept-is : (r : Resident) (bytes : List ℕ) → IsPeerOf r (with_rest bytes r.peer)
kept-is r bytes = record { objects = refl; buffers = refl; requests = le-same r.peer.requests r.peer.requests refl }

-- its peer is another one in nothing that is looked at, or it goes, where it ended
record KeepsPeer (R : Peer → Done → Option Peer → Type 0) : Type 0 where
  stays : (r : Resident) (done : Done) (q : Option Peer) → R r.peer done q → (x : Peer) → q ≡ Some x → (x.status ≡ r.peer.status) × IsPeerOf r x
  goes : (p : Peer) (done : Done) → R p done None → (cause : Cause) × (p.status ≡ Some cause)

-- one that is the same
same-is : (r : Resident) (x y : Peer) → x ≡ y → IsPeerOf r y → IsPeerOf r x
same-is r x y e is = subst (λ p. IsPeerOf r p) (sym e) is

stored-is : (s : Option Cause) (store at : ℕ) (bytes : List ℕ) (r : Resident) → IsPeerOf r (stored_at s store at bytes r.peer)
stored-is (Some cause) store at bytes r = kept-is r r.peer.rest
stored-is None store at bytes r = by (write_refusal store at (length bytes) r.peer.stores)
  where
    by : (refusal : Option StoreError) → IsPeerOf r (stored_by store at bytes refusal r.peer)
    by None = record { objects = refl; buffers = refl; requests = le-same r.peer.requests r.peer.requests refl }
    by (Some error) = kept-is r r.peer.rest

stored-keeps : (store at : ℕ) (bytes : List ℕ) → KeepsPeer (IsStored store at bytes)
stored-keeps store at bytes = record {
  stays = λ r done q h x e.
      let same = same_Some x (stored_at r.peer.status store at bytes r.peer) (sym e ∙ h.0) in
      (ap (λ (y : Peer). y.status) same ∙ stored-status r.peer.status store at bytes r.peer, same-is r x _ same (stored-is r.peer.status store at bytes r));
  goes = λ p done h. absurd (none-some (stored_at p.status store at bytes p) h.0);
}

sent-is : (n : ℕ) (r : Resident) → IsPeerOf r (sent_by n r.peer)
sent-is n r = at (nat_le n (length r.peer.unsent))
  where
    at : (b : Bool) → IsPeerOf r (if b then record r.peer { unsent = drop n r.peer.unsent } else r.peer)
    at true = record { objects = refl; buffers = refl; requests = le-same r.peer.requests r.peer.requests refl }
    at false = kept-is r r.peer.rest

sent-keeps : (n : ℕ) → KeepsPeer (IsSent n)
sent-keeps n = record {
  stays = λ r done q h x e.
      let same = same_Some x (sent_by n r.peer) (sym e ∙ h.0) in
      (ap (λ (y : Peer). y.status) same ∙ sent-status n r.peer, same-is r x _ same (sent-is n r));
  goes = λ p done h. absurd (none-some (sent_by n p) h.0);
}

closed-keeps : KeepsPeer IsClosed
closed-keeps = record { stays = λ r done q h x e. at r r.peer.status q x e h.0; goes = λ p done h. gone p p.status refl h.0 }
  where
    at : (r : Resident) (s : Option Cause) (q : Option Peer) (x : Peer) → q ≡ Some x → q ≡ closed_by s r.peer → (x.status ≡ r.peer.status) × IsPeerOf r x
    at r None q x e is = let same = same_Some x r.peer (sym e ∙ is) in (ap (λ (y : Peer). y.status) same, same-is r x r.peer same (kept-is r r.peer.rest))
    at r (Some cause) q x e is = absurd (none-some x (sym is ∙ e))

    gone : (p : Peer) (s : Option Cause) → p.status ≡ s → None ≡ closed_by s p → (cause : Cause) × (p.status ≡ Some cause)
    gone p None e is = absurd (none-some p is)
    gone p (Some cause) e is = (cause, e)

-- ---- the stack of toplevels

-- where nobody points no toplevel is moved, of which a message would let go
pub done-still : (c : ℕ) (demand : Demand) (r : Resident) (d : Desktop) → d.pointer ≡ first_pointer → done_for c demand r d ≡ stacked_for c demand r (all_windows d) d
done-still c demand r d still = kept-still (stacked_for c demand r (all_windows d) d) (stacked-still c demand r (all_windows d) d still)

by-others : (effect : Effect) (b : Bool) (c other id : ℕ) (d : Desktop) → c ≢ other → toplevels_of other (stacked_by effect b c id d) ≡ toplevels_of other d
by-others Maps true c other id d differ = on_top d.mappings c id other differ d.standing
by-others Unmaps true c other id d differ = left_out (λ s. not (is_of c id s)) other (one_surface c other id differ) d.standing
by-others effect b c other id d differ = refl

-- the toplevels of the others stand as before
pub stacked-others : (c other : ℕ) (demand : Demand) (r : Resident) (windows : List Window) (d : Desktop) → c ≢ other → toplevels_of other (stacked_for c demand r windows d) ≡ toplevels_of other d
stacked-others c other (CommitTree id) r windows d differ = by-others (effect_of_commit r id) (is_toplevel (xdg_of id r.owned.shell)) c other id d differ
stacked-others c other (EndToplevel id xdg top) r windows d differ = left_out (λ s. not (is_of c top s)) other (one_surface c other top differ) d.standing
stacked-others c other demand r windows d differ = refl

-- ---- what a client is told is settled

becomes-back : (Q : Peer → Type 0) (c : ℕ) (r : Resident) (d new : Desktop) → d.pointer ≡ first_pointer → StepBecomes Q c r d new → Becomes Q c r d new
becomes-back Q c r d new still h =
    let same = becomes-same c r h.0 d still in
    (h.0, h.1, settled-back (becomes c r h.0 d) new (ap (λ (e : Desktop). e.pointer) same ∙ by-pointer h.0.status c r h.0 d ∙ still) h.2 ∙ same)

done-back : (events : List Said) (c : ℕ) (made there : Resident) (d new : Desktop) → client_at c d ≡ Some there → d.pointer ≡ first_pointer → made.peer.status ≡ None → IsDone events c made d new
    → Becomes (Queues events made.peer) c made d new
done-back events c made there d new is still alive h =
    let same = after-same events c made there d is still alive h.0 h.1 h.2 in
    let last : Peer = ended_why h.1 h.0 in
    let after : Desktop = after_why h.1 c (with_client c (Some (with_peer h.0 made)) d) in (
      last,
      told-back events made.peer h.0 h.1 h.2,
      settled-back after new (ap (λ (e : Desktop). e.pointer) same ∙ by-pointer last.status c made last d ∙ still) h.3 ∙ same,
    )

-- a message is counted as its bytes are taken
abbrev pub counted_of : Resident → List ℕ → Resident
counted_of r rest = with_peer (counted (with_rest rest r.peer)) r

-- What a message demands leaves its client, which lives, what is said of it.
abbrev pub DemandsKeep : (Option Cause → Resident → List Standing → Type 0) → Type 0
DemandsKeep By =
    (c : ℕ) (r : Resident) (rest : List ℕ) (object opcode : ℕ) (body : List ℕ) (demand : Demand) (d : Desktop) → judge_all r object opcode body ≡ Ok demand → d.pointer ≡ first_pointer
    → By None r (toplevels_of c d) → By None (changed_for c demand (counted_of r rest) d) (toplevels_of c (stacked_for c demand (counted_of r rest) (all_windows d) d))

module _ (Absent : List Standing → Type 0) (By : Option Cause → Resident → List Standing → Type 0) (kept : IsKept Absent By) where
  abbrev All : Desktop → Type 0
  All d = AllAre Absent By d

  -- ---- a client comes

  connects : (o : Option ℕ) (d : Desktop) (done : Done) (e : Desktop) → lowest d.clients ≡ o → All d → ConnectsAt o d done e → All e
  connects None d done e free all h = subst All (sym h.1) all
  connects (Some k) d done e free all (inl h) = subst All (sym h.1) all
  connects (Some k) d done e free all (inr h) =
      let come : Option Resident = Some (arrival d.output) in
      let it = comes-at d.clients k come free in
      let none : Absent (toplevels_of (k + 1) d) = subst (λ o. At Absent By o (toplevels_of (k + 1) d)) it.0 (all.each (k + 1)) in
      subst All (sym h.1) (with-all Absent By (k + 1) come d all it.1 (kept.arrives d.output (toplevels_of (k + 1) d) none))

  -- ---- what becomes of a client that is there

  changes-at : (R : Peer → Done → Option Peer → Type 0) → KeepsPeer R → (absent done : Done) (c : ℕ) (o : Option Resident) (d e : Desktop) → client_at c d ≡ o → All d
      → ChangesAt R absent c o d done e → All e
  changes-at R keeps absent done c None d e is all h = subst All (sym h.1) all
  changes-at R keeps absent done c (Some r) d e is all (None, h, last) =
      let gone = keeps.goes r.peer done h in
      let over : By (Some gone.0) r (toplevels_of c d) = subst (λ s. By s r (toplevels_of c d)) gone.1 (known-by Absent By c r d all is) in
      subst All (sym last) (with-all Absent By c None d all (number-same d.clients c None r is) (kept.goes gone.0 r (toplevels_of c d) over))
  changes-at R keeps absent done c (Some r) d e is all (Some x, h, last) =
      let same = keeps.stays r done (Some x) h x refl in
      let now : By x.status (with_peer x r) (toplevels_of c d) =
      subst (λ s. By s (with_peer x r) (toplevels_of c d)) (sym same.0) (kept.keeps r.peer.status r x (toplevels_of c d) same.1 (known-by Absent By c r d all is)) in
      subst All (sym last) (with-all Absent By c (Some (with_peer x r)) d all (number-same d.clients c (Some (with_peer x r)) r is) now)

  leaves-by : (s : Option Cause) (c : ℕ) (r : Resident) (d e : Desktop) (done : Done) → r.peer.status ≡ s → client_at c d ≡ Some r → All d → LeavesAt c (Some r) d done e → All e
  leaves-by (Some cause) c r d e done status is all h =
      let last : e ≡ d = rw status at h.1 in
      subst All (sym last) all
  leaves-by None c r d e done status is all h =
      let k : EndsAndSettles (unstruck (becomes c r (ended Gone r.peer) d)) e = rw status at h.1 in
      settled-all Absent By kept c Gone r d e is all k

  leaves-at : (c : ℕ) (o : Option Resident) (d e : Desktop) (done : Done) → client_at c d ≡ o → All d → LeavesAt c o d done e → All e
  leaves-at c None d e done is all h = subst All (sym h.1) all
  leaves-at c (Some r) d e done is all h = leaves-by r.peer.status c r d e done refl is all h

  -- ---- what is kept of a stream

  pub piece-keeps : (c : ℕ) (r : Resident) (bytes : List ℕ) (d : Desktop) → All d → client_at c d ≡ Some r → All (with_client c (Some (with_peer (with_rest bytes r.peer) r)) d)
  piece-keeps c r bytes d all is =
      let come : Peer = with_rest bytes r.peer in
      with-all Absent By c (Some (with_peer come r)) d all (number-same d.clients c (Some (with_peer come r)) r is)
      (kept.keeps r.peer.status r come (toplevels_of c d) (kept-is r bytes) (known-by Absent By c r d all is))

  -- ---- a frame

  told-by : (s : Option Cause) (time c : ℕ) (r : Resident) (d new : Desktop) → r.peer.status ≡ s → client_at c d ≡ Some r → All d → FramesToldBy s time c r d new → All new
  told-by (Some cause) time c r d new status is all h = subst All (sym h) all
  told-by None time c r d new status is all h =
      let owns : By None (done_due r) (toplevels_of c d) = kept.framed r (toplevels_of c d) (lives-there Absent By c r d all is status) in
      subst All (sym h.2)
      (become-all Absent By kept c (done_due r) r h.0 d is all.pointer (others-of Absent By c d all)
      (λ alive. kept.keeps None (done_due r) h.0 (toplevels_of c d) (told-is (frames_told time r) (done_due r) h.0 h.1 alive) owns))

  told-at : (o : Option Resident) (time c : ℕ) (d new : Desktop) → client_at c d ≡ o → All d → FramesToldAt time c o d new → All new
  told-at None time c d new is all h = subst All (sym h) all
  told-at (Some r) time c d new is all h = told-by r.peer.status time c r d new refl is all h

  pub frame-keeps : (time c : ℕ) (d new : Desktop) → All d → FramesToldAt time c (client_at c d) d new → All new
  frame-keeps time c d new all h = told-at (client_at c d) time c d new refl all h

  frames : (time n c : ℕ) (d new : Desktop) → All d → FramesTold time n c d new → All new
  frames time zero c d new all h = subst All (sym h) all
  frames time (suc n) c d new all h = frames time n (suc c) h.0 new (frame-keeps time c d h.0 all h.1) h.2

  -- ---- a message

  module _ (demands : DemandsKeep By) where
    module _ (c : ℕ) (r : Resident) (d new : Desktop) (is : client_at c d ≡ Some r) (alive : r.peer.status ≡ None) (all : All d) where
      -- its client ends
      over : (Q : Peer → Type 0) → ((q : Peer) → Q q → q.status ≡ None → ⊥) → (s : Resident) → StepBecomes Q c s d new → All new
      over Q never s h =
          let k = becomes-back Q c s d new all.pointer h in
          subst All (sym k.2) (ends-all Absent By kept c s r k.0 d is all (never k.0 k.1))

      -- what is demanded is done
      module _ (rest : List ℕ) (object opcode : ℕ) (body : List ℕ) (demand : Demand) (judged : judge_all r object opcode body ≡ Ok demand) where
        abbrev Now : Resident
        Now = counted_of r rest

        abbrev Made : Resident
        Made = changed_for c demand Now d

        abbrev On : Desktop
        On = stacked_for c demand Now (all_windows d) d

        abbrev Events : List Said
        Events = replies c demand Now Made (all_windows d) d

        clients : On.clients ≡ d.clients
        clients = ap (λ (e : Desktop). e.clients) (sym (done-still c demand Now d all.pointer)) ∙ done-clients_stay c demand Now d

        found : client_at c On ≡ Some r
        found = ap (λ (rs : List (Option Resident)). client_in rs c) clients ∙ is

        others : AreOthers Absent By c On
        others =
            others-so Absent By c On
            (λ other differ.
            subst (λ tops. At Absent By (client_at other On) tops) (sym (stacked-others c other demand Now (all_windows d) d differ))
            (subst (λ (rs : List (Option Resident)). At Absent By (client_in rs other) (toplevels_of other d)) (sym clients) (all.each other)))

        -- whatever is told to it, even if not all of that is queued
        pub made-keeps : (q : Peer) → (q.status ≡ None → IsPeerOf Made q) → All (become c Made q On)
        made-keeps q same =
            become-all Absent By kept c Made r q On found (stacked-still c demand Now (all_windows d) d all.pointer) others
            (λ lived.
            kept.keeps None Made q (toplevels_of c On) (same lived)
            (demands c r rest object opcode body demand d judged all.pointer (lives-there Absent By c r d all is alive)))

        does : Does c demand Now d new → All new
        does h =
            let first : IsDone Events c Made On new = subst (λ (e : Desktop). IsDone Events c Made e new) (done-still c demand Now d all.pointer) h in
            let living : Made.peer.status ≡ None = (changed-steady c demand d Now).0 ∙ alive in
            let k = done-back Events c Made r On new found (stacked-still c demand Now (all_windows d) d all.pointer) living first in
            subst All (sym k.2) (made-keeps k.0 (told-is Events Made k.0 k.1))

        wants : (b : Bool) → WantsOr b (Does c demand Now d new) c Now d new → All new
        wants false h = does h
        wants true (inl h) = over (LacksMemory Now.peer) (lacking Now.peer) Now h
        wants true (inr h) = does h

      answers : (rest : List ℕ) (object opcode : ℕ) (body : List ℕ) (judged : Result Demand Refusal) → judge_all r object opcode body ≡ judged
          → Answers judged c (with_peer (with_rest rest r.peer) r) d new → All new
      answers rest object opcode body (Ok demand) e h = wants rest object opcode body demand e (wants_memory demand) h
      answers rest object opcode body (Err refusal) e h =
          over (Errs refusal (with_rest rest r.peer)) (erred refusal (with_rest rest r.peer)) (with_peer (with_rest rest r.peer) r) h

      takes : (split : Split) → Takes split c r d new → All new
      takes (Message object opcode size) h =
          let body = take (size - 8) (drop 8 r.peer.rest) in
          answers (drop size r.peer.rest) object opcode body (judge_all r object opcode body) refl h
      takes Bad h = over (Errs (display_error InvalidMethod) r.peer) (erred (display_error InvalidMethod) r.peer) r h
      takes More h = absurd h

    serves-at : (o : Option Resident) (c : ℕ) (d e : Desktop) → client_at c d ≡ o → All d → ServesAt c o d e → All e
    serves-at None c d e is all h = absurd h
    serves-at (Some r) c d e is all h = takes c r d e is h.0 all (split_of r.peer.rest) h.1

    pub serves-keeps : (c : ℕ) (d e : Desktop) → All d → Serves c d e → All e
    serves-keeps c d e all h = serves-at (client_at c d) c d e refl all h

    -- ---- a piece

    pub reaches-keeps : (n c : ℕ) (d e : Desktop) → All d → Reaches c n d e → All e
    reaches-keeps zero c d e all h = subst All (sym h) all
    reaches-keeps (suc n) c d e all h = serves-keeps c h.0 e (reaches-keeps n c d h.0 all h.1) h.2

    stops : (c : ℕ) (o : Option Resident) (d e : Desktop) → client_at c d ≡ o → All d → StopsAt c o d e → All e
    stops c None d e is all h = absurd h
    stops c (Some r) d e is all (inl h) = subst All (sym h.0) all
    stops c (Some r) d e is all (inr h) = settled-all Absent By kept c Memory r d e is all h.1

    feeds : (s : Option Cause) (c : ℕ) (piece : List ℕ) (r : Resident) (d e : Desktop) → r.peer.status ≡ s → client_at c d ≡ Some r → All d → FeedsAt c piece s r d e → All e
    feeds (Some cause) c piece r d e status is all h = subst All (sym h) all
    feeds None c piece r d e status is all h =
        let come : Peer = with_rest (r.peer.rest ++ piece) r.peer in
        let start : All (with_client c (Some (with_peer come r)) d) = piece-keeps c r (r.peer.rest ++ piece) d all is in
        stops c (client_at c h.1) h.1 e refl (reaches-keeps h.0 c (with_client c (Some (with_peer come r)) d) h.1 start h.2) h.3

    fed : (c : ℕ) (piece : List ℕ) (o : Option Resident) (d : Desktop) (done : Done) (e : Desktop) → client_at c d ≡ o → All d → IsFedAt c piece o d done e → All e
    fed c piece None d done e is all h = subst All (sym h.1) all
    fed c piece (Some r) d done e is all h = feeds r.peer.status c piece r d e refl is all h.0

    -- ---- every step

    pub happens-keeps : (act : Act) (done : Done) (d e : Desktop) → LeavesPointer act → All d → Happens act done d e → All e
    happens-keeps Connect done d e alone all h = connects (lowest d.clients) d done e refl all h
    happens-keeps (Feed c piece) done d e alone all h = fed c piece (client_at c d) d done e refl all h
    happens-keeps (Store c store at bytes) done d e alone all h =
        changes-at (IsStored store at bytes) (stored-keeps store at bytes) _ done c (client_at c d) d e refl all h
    happens-keeps (Leave c) done d e alone all h = leaves-at c (client_at c d) d e done refl all h
    happens-keeps (Tick time) done d e alone all h = frames time 32 1 d e all (told-shows time d e all.pointer h.1)
    happens-keeps (Send c n) done d e alone all h = changes-at (IsSent n) (sent-keeps n) _ done c (client_at c d) d e refl all h
    happens-keeps (Close c) done d e alone all h = changes-at IsClosed closed-keeps _ done c (client_at c d) d e refl all h
    happens-keeps act done d e alone all h = absurd alone
