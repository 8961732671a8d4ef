-- A client's own messages leave it orderly.
use Rattle.std.proofs.Common.{◌≡◌, ℕ, zero, suc, ◌+◌, ◌-◌, take, drop, List, ◌++◌, Bool, true, false, Option, Some, None, Result, refl, ap, sym, subst, ◌∙◌, inl, inr}
use Rattle.std.specs.Prelude.{Ok, Err}
use Rattle.wl_wire.specs.Wire.{split_of}
use Rattle.wl_wire.specs.declared.header.Split.{Split}
use Rattle.wl_wire.specs.declared.header.Split.TheVariants.{Message, More, Bad}
use Rattle.spec_desktop.specs.declared.cause.Cause.{Cause}
use Rattle.spec_desktop.specs.declared.cause.Cause.TheVariants.{Memory, Protocol, Slow}
use Rattle.spec_desktop.specs.declared.refusals.ErrorCode.TheVariants.{InvalidMethod, NoMemory}
use Rattle.spec_desktop.specs.declared.refusals.Refusal.{Refusal}
use Rattle.spec_desktop.specs.Peer.{Errs, LacksMemory, Peer, QueuesOr, counted, ended, has_room, queued, with_rest}
use Rattle.spec_desktop.specs.Told.{code_number, display_error, error_told}
use Rattle.spec_desktop.specs.Stacking.{Standing}
use Rattle.spec_desktop.specs.Windows.{Window}
use Rattle.spec_desktop.specs.declared.answers.Done.{Done}
use Rattle.spec_desktop.specs.Changing.{changed_for, stacked_for}
use Rattle.spec_desktop.specs.Demand.{Demand}
use Rattle.spec_desktop.specs.Demanding.{judge_all}
use Rattle.spec_desktop.specs.Desktop.{Desktop, Resident, client_at, client_in, with_client, toplevels_of}
use Rattle.spec_desktop.specs.Replies.{replies}
use Rattle.spec_desktop.specs.Settling.{Midstep, becomes, unstruck}
use Rattle.spec_desktop.specs.Stacked.{all_windows}
use Rattle.spec_desktop.specs.Step.{with_peer}
use Rattle.spec_desktop.specs.Happens.{AnswersThen, BecomesThen, DoesThen, FeedsAt, IsFedAt, Reaches, ServesThen, StopsAt, TakesThen, WantsOrThen, changed_so, done_for, settling, wants_memory}
use Rattle.law_desktop.proofs.Runs.Forms.{ServesAt}
use Rattle.law_desktop.proofs.Soundness.Orderly.{IsOrderly, IsOrderlyAt, IsOrderlyBy}
use Rattle.law_desktop.proofs.Soundness.RunSteady.{changed-steady}
use Rattle.law_desktop.proofs.Soundness.RunTold.{Frames, Known, alike, becomes-ended, known-same, known-so, queued-orderly, settled, settling-known}
use Rattle.law_desktop.proofs.Runs.Places.{number-same}
use Rattle.law_desktop.proofs.Runs.Serves.{done-clients_stay}

-- An accepted message leaves its client orderly.
abbrev pub MessageKeeps : Type 0
MessageKeeps =
    (c : ℕ) (r : Resident) (rest : List ℕ) (object opcode : ℕ) (body : List ℕ) (demand : Demand) (windows : List Window) (d : Desktop)
    → judge_all r object opcode body ≡ Ok demand → IsOrderly (r.peer.requests + 1) r (toplevels_of c d)
    → (let s : Resident = with_peer (counted (with_rest rest r.peer)) r in IsOrderly (s.peer.requests + 1) (changed_for c demand s d) (toplevels_of c (stacked_for c demand s windows d)))

-- ---- ends

abbrev pub HasEnded : Peer → Type 0
HasEnded q = (cause : Cause) × (p : Peer) × (q ≡ ended cause p)

pub erred-ended : (refusal : Refusal) (p q : Peer) → Errs refusal p q → HasEnded q
erred-ended refusal p q h = at (has_room p.unsent (error_told refusal)) h
  where
    at : (b : Bool) → QueuesOr b (q ≡ ended (Protocol refusal.object (code_number refusal.code)) (queued (error_told refusal) p)) p q → HasEnded q
    at false e = (Slow, p, e)
    at true (inl e) = (Memory, p, e)
    at true (inr e) = (Protocol refusal.object (code_number refusal.code), queued (error_told refusal) p, e)

pub lacking-ended : (p q : Peer) → LacksMemory p q → HasEnded q
lacking-ended p q (inl e) = (Memory, p, e)
lacking-ended p q (inr e) = (Memory, queued (error_told (display_error NoMemory)) p, e.1)

module _ (frames : Frames) (message : MessageKeeps) (c : ℕ) where
  -- a client that lives is orderly
  lively : (r : Resident) (d : Desktop) → client_at c d ≡ Some r → r.peer.status ≡ None → Known c d → IsOrderly (r.peer.requests + 1) r (toplevels_of c d)
  lively r d found alive known =
      let here : IsOrderlyBy r.peer.status r (toplevels_of c d) = subst (λ (o : Option Resident). IsOrderlyAt o (toplevels_of c d)) found known in
      subst (λ (s : Option Cause). IsOrderlyBy s r (toplevels_of c d)) alive here

  -- ---- a message

  -- what follows from the middle of a step, with what comes then, follows from the message
  module _ (X : Type 0) (Next : Midstep → Type 0) (next : (mid : Midstep) → Known c mid.desktop → Next mid → X) where
    -- its client ends
    becomes-known : (Q : Peer → Type 0) → ((q : Peer) → Q q → HasEnded q) → (r there : Resident) (d : Desktop)
        → client_at c d ≡ Some there → BecomesThen Q c r d Next → X
    becomes-known Q ends r there d found h =
        let k = ends h.0 h.1 in
        next (unstruck (becomes c r h.0 d)) (subst (λ (q : Peer). Known c (becomes c r q d)) (sym k.2) (becomes-ended c r there k.0 k.1 d found)) h.2

    -- what is asked is done
    does-known : (r : Resident) (rest : List ℕ) (object opcode : ℕ) (body : List ℕ) (demand : Demand) (d : Desktop)
        → judge_all r object opcode body ≡ Ok demand → client_at c d ≡ Some r → r.peer.status ≡ None → Known c d
        → DoesThen c demand (with_peer (counted (with_rest rest r.peer)) r) d Next → X
    does-known r rest object opcode body demand d judged found alive known h =
        let s : Resident = with_peer (counted (with_rest rest r.peer)) r in
        let changed : Resident = changed_for c demand s d in
        let done : Desktop = done_for c demand s d in
        let tops : List Standing = toplevels_of c (stacked_for c demand s (all_windows d) d) in
        let after : IsOrderly (s.peer.requests + 1) changed tops = message c r rest object opcode body demand (all_windows d) d judged (lively r d found alive known) in
        let steady = changed-steady c demand d s in
        let counts : IsOrderly (changed.peer.requests + 1) changed tops = subst (λ (n : ℕ). IsOrderly (n + 1) changed tops) (sym steady.1) after in
        let made : IsOrderlyBy changed.peer.status changed tops = subst (λ (o : Option Cause). IsOrderlyBy o changed tops) (sym (steady.0 ∙ alive)) counts in
        let told : Resident = with_peer h.0 changed in
        let it : IsOrderlyAt (Some told) tops = queued-orderly frames (replies c demand s changed (all_windows d) d) changed h.0 h.1 h.2 tops made in
        let now : Desktop = with_client c (Some told) done in
        let there : client_at c done ≡ Some r = ap (λ (clients : List (Option Resident)). client_in clients c) (done-clients_stay c demand s d) ∙ found in
        next (changed_so c demand s d h.0 h.1) (known-so c now (Some told) tops (number-same done.clients c (Some told) r there) refl it) h.3

    wants-known : (b : Bool) (r : Resident) (rest : List ℕ) (object opcode : ℕ) (body : List ℕ) (demand : Demand) (d : Desktop)
        → judge_all r object opcode body ≡ Ok demand → client_at c d ≡ Some r → r.peer.status ≡ None → Known c d
        → WantsOrThen b (DoesThen c demand (with_peer (counted (with_rest rest r.peer)) r) d Next) c
        (with_peer (counted (with_rest rest r.peer)) r) d Next → X
    wants-known false r rest object opcode body demand d judged found alive known h =
        does-known r rest object opcode body demand d judged found alive known h
    wants-known true r rest object opcode body demand d judged found alive known (inl h) =
        becomes-known (LacksMemory (counted (with_rest rest r.peer))) (λ q lacks. lacking-ended (counted (with_rest rest r.peer)) q lacks)
        (with_peer (counted (with_rest rest r.peer)) r) r d found h
    wants-known true r rest object opcode body demand d judged found alive known (inr h) =
        does-known r rest object opcode body demand d judged found alive known h

    takes-known : (split : Split) (r : Resident) (d : Desktop)
        → client_at c d ≡ Some r → r.peer.status ≡ None → Known c d → TakesThen split c r d Next → X
    takes-known (Message object opcode size) r d found alive known h = at (judge_all r object opcode body) refl h
      where
        rest : List ℕ
        rest = drop size r.peer.rest

        body : List ℕ
        body = take (size - 8) (drop 8 r.peer.rest)

        at : (judged : Result Demand Refusal) → judge_all r object opcode body ≡ judged
            → AnswersThen judged c (with_peer (with_rest rest r.peer) r) d Next → X
        at (Ok demand) e k = wants-known (wants_memory demand) r rest object opcode body demand d e found alive known k
        at (Err refusal) e k =
            becomes-known (Errs refusal (with_rest rest r.peer)) (λ q errs. erred-ended refusal (with_rest rest r.peer) q errs)
            (with_peer (with_rest rest r.peer) r) r d found k
    takes-known Bad r d found alive known h =
        becomes-known (Errs (display_error InvalidMethod) r.peer)
        (λ q errs. erred-ended (display_error InvalidMethod) r.peer q errs) r r d found h
    takes-known More r d found alive known h = absurd h

    pub serves-so : (o : Option Resident) (d : Desktop) → client_at c d ≡ o → Known c d → ServesThen c o d Next → X
    serves-so None d found known h = absurd h
    serves-so (Some r) d found known h = takes-known (split_of r.peer.rest) r d found h.0 known h.1

  serves-known : (o : Option Resident) (d new : Desktop) → client_at c d ≡ o → Known c d → ServesAt c o d new → Known c new
  serves-known o d new found known h = serves-so (Known c new) (settling new) (settling-known frames c new) o d found known h

  -- ---- a piece

  reaches-known : (n : ℕ) (d new : Desktop) → Known c d → Reaches c n d new → Known c new
  reaches-known zero d new known h = known-same c d new h known
  reaches-known (suc n) d new known h = serves-known (client_at c h.0) h.0 new refl (reaches-known n d h.0 known h.1) h.2

  stops-known : (o : Option Resident) (mid new : Desktop) → client_at c mid ≡ o → Known c mid → StopsAt c o mid new → Known c new
  stops-known None mid new found known h = absurd h
  stops-known (Some r) mid new found known (inl h) = known-same c mid new h.0 known
  stops-known (Some r) mid new found known (inr h) = settled frames c (becomes c r (ended Memory r.peer) mid) new (becomes-ended c r r Memory r.peer mid found) h.1

  -- another peer of a client that is there
  with-known : (r : Resident) (q : Peer) (d : Desktop) → client_at c d ≡ Some r → IsOrderlyAt (Some (with_peer q r)) (toplevels_of c d) → Known c (with_client c (Some (with_peer q r)) d)
  with-known r q d found known = known-so c (with_client c (Some (with_peer q r)) d) (Some (with_peer q r)) (toplevels_of c d) (number-same d.clients c (Some (with_peer q r)) r found) refl known

  feeds-known : (piece : List ℕ) (s : Option Cause) (r : Resident) (d new : Desktop) → client_at c d ≡ Some r → Known c d → FeedsAt c piece s r d new → Known c new
  feeds-known piece (Some cause) r d new found known h = known-same c d new h known
  feeds-known piece None r d new found known h =
      let come : Resident = with_peer (with_rest (r.peer.rest ++ piece) r.peer) r in
      let it : IsOrderlyAt (Some r) (toplevels_of c d) = subst (λ (o : Option Resident). IsOrderlyAt o (toplevels_of c d)) found known in
      let start : Known c (with_client c (Some come) d) =
      with-known r (with_rest (r.peer.rest ++ piece) r.peer) d found
      (alike frames r come (record { status = refl; requests = refl; objects = refl; owned = refl; subsurfaces = refl; callbacks = refl }) (toplevels_of c d) it) in
      stops-known (client_at c h.1) h.1 new refl (reaches-known h.0 (with_client c (Some come) d) h.1 start h.2) h.3

  pub fed-known : (piece : List ℕ) (o : Option Resident) (d : Desktop) (done : Done) (new : Desktop) → client_at c d ≡ o → Known c d → IsFedAt c piece o d done new → Known c new
  fed-known piece None d done new found known h = known-same c d new h.1 known
  fed-known piece (Some r) d done new found known h = feeds-known piece r.peer.status r d new found known h.0
